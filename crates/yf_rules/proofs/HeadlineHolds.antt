-- The statements on a text and its formatting follow from the laws.
use Rattle.std.proofs.Common.{◌≡◌, ◌^◌, ◌<◌, ◌≤◌, ℕ, List, [], ◌++◌, length, refl, subst, ⊎_elim}
use Rattle.std.specs.Prelude.{Option, Result, Ok, Err, IfOk}
use Rattle.std.proofs.lemmas.Bool.{cases_lt}
use Rattle.yf_lines.specs.declared.fault.Fault.{Fault}
use Rattle.yf_lines.specs.declared.fault.Fault.TheVariants.{Memory}
use Rattle.std.specs.Str.{IsUtf8}
use Rattle.yf_lines.specs.Lines.{Table}
use Rattle.yf_events.specs.declared.lists.Lists.{Lists}
use Rattle.yf_events.specs.declared.reading.TheConstants.{LONGEST}
use Rattle.yf_laws.specs.FormatPromises.{FormatKept}
use Rattle.yf_forms.specs.declared.style.Style.{Style}
use Rattle.yf_rule_sets.specs.RuleOf.{definition_of}
use Rattle.yf_rule_sets.specs.RuleSets.Places.{PlacesOf}
use Rattle.yf_rule_sets.specs.RuleSets.Places.FoundAt.{found_at}
use Rattle.yf_rule_sets.specs.declared.rules.StyleRule.{StyleRule}
use Rattle.yf_laws.specs.Formattings.{FormattingsHold}
use Rattle.yf_laws.specs.Mended.{IsFormatted, RulesAreMended}
use Rattle.yf_rules.specs.Check.{InOrder, RuleFindings}
use Rattle.yf_rules.specs.Check.CheckAnswer.{checked}
use Rattle.yf_rules.specs.Check.FindingsOf.{at_places}
use Rattle.yf_rules.specs.Check.InOrder.{no_rules, one_more}
use Rattle.yf_rules.specs.CheckAfterFormat.{FormattedTextsAreClean}
use Rattle.yf_rules.specs.Headline.{Headline}
use Rattle.yf_rules.specs.NothingToFix.{NoneFixable}
use Rattle.yf_rules.specs.Runs.Run.{Gave, FormattingGiven}
use Rattle.yf_rules.specs.declared.finding.Finding.{Finding}
use Rattle.yf_rules.specs.declared.run.TheConstants.{INPUT_LIMIT}
use Rattle.yf_rules.proofs.Findings.MendedFindings.{both_silent, none_silent, places_none, rule_silent, sorted_silent}

pub headline_holds : FormattingsHold → {t u : List ℕ} {s : Style} → length t ≤ INPUT_LIMIT → IsUtf8 t → FormatKept t s u → length u ≤ LONGEST → Headline t s u
headline_holds laws {t} {u} {s} within utf8 kept fits =
    let holds = laws t u s utf8 kept in
    record {
      within = within;
      utf8 = utf8;
      standard = holds.standard;
      reading = holds.reading;
      reads = holds.reads;
      nested = holds.nested;
      kept = kept;
      still_standard = holds.still_standard;
      mended = holds.mended;
      fits = fits;
    }

-- a text that the reader of streams accepts is not too long
pub within_limit : {A : Type 0} (t : List ℕ) (r : Result A Fault) → (2 ^ 30 < length t → r ≡ Err Memory) → IfOk r (λ _. length t ≤ INPUT_LIMIT)
within_limit t (Ok a) long = ⊎_elim (λ (h : 2 ^ 30 < length t). let e = long h in absurd cc) (λ (h : length t ≤ 2 ^ 30). h) (cases_lt (2 ^ 30) (length t))
within_limit t (Err fault) long = tt

-- the facts about a text that was read, if a formatting of it isn't too long
pub rendered_holds : FormattingsHold → {B E : Type 0} (s : Style) (known : Option (List ℕ)) (t : List ℕ) → Gave known t → length t ≤ INPUT_LIMIT → IsUtf8 t → (bytes : B → List ℕ)
    → (given : Result B E) → IfOk given (λ f. FormatKept t s (bytes f)) → IfOk given (λ f. length (bytes f) ≤ LONGEST) → IfOk given (λ f. FormattingGiven s known (bytes f))
rendered_holds laws s known t gave within utf8 bytes (Ok f) kept fits = record { text = t; gave = gave; headline = headline_holds laws within utf8 kept fits }
rendered_holds laws s known t gave within utf8 bytes (Err e) kept fits = tt

-- The findings of rules in a formatted text.

one_rule : RulesAreMended → {src : Table} {reading : Lists} {style : Style} {findings : List Finding} (rule : StyleRule) → IsFormatted src reading style → RuleFindings (definition_of rule) src reading style findings → NoneFixable findings
one_rule mended {src} {reading} {style} {findings} rule w (at_places {places = places} number id fixable n i f (found_at {os = os} at are) ascend lines) =
    rule_silent number id fixable (definition_of rule).fixable places places findings f refl
    (λ fixed v. places_none src.text places (subst (λ z. PlacesOf src.text z places) (mended rule fixed src reading style v os at) are)) lines w

in_order : RulesAreMended → {src : Table} {reading : Lists} {style : Style} {rules : List StyleRule} {findings : List Finding} → IsFormatted src reading style
    → InOrder (λ rule found. RuleFindings (definition_of rule) src reading style found) rules findings → NoneFixable findings
in_order mended w no_rules = none_silent [] refl w
in_order mended w (one_more {b = rule} {x = x} {y = y} front last) = both_silent x y (x ++ y) (λ v. in_order mended v front) (λ v. one_rule mended rule v last) refl w

pub formatted_texts_are_clean : RulesAreMended → FormattedTextsAreClean
formatted_texts_are_clean mended src reading style without findings w (checked {all = all} order sorted) = sorted_silent all findings (λ v. in_order mended v order) sorted w
