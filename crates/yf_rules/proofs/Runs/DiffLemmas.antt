-- What the run that prints the diff of a text and its formatting has read and written.
use Rattle.std.proofs.Common.{◌≡◌, ◌∙◌, ℕ, true, List, [], ap, sym, subst}
use Rattle.std.specs.Prelude.{Option, IfSome}
use Rattle.yf_diff.specs.Diff.{AddsDiff}
use Rattle.yf_forms.specs.declared.style.Style.{Style}
use Rattle.yf_laws.specs.Mended.{IsMended}
use Rattle.yf_rules.specs.Headline.{Headline}
use Rattle.yf_rules.specs.Runs.ByteStream.{ByteStream, Writes}
use Rattle.yf_rules.specs.Runs.Compare.{IsClean}
use Rattle.yf_rules.specs.Runs.Diffed.{DiffOf, DiffRun, is_same}
use Rattle.yf_rules.proofs.Runs.CompareLemmas.{other_formatting, own_formatting, own_is_clean, wrote_nothing}
use Rattle.yf_rules.proofs.Runs.GivenTexts.{GivenText}

-- the diff of a text that was read and its formatting
pub diff_of : {style : Style} {name : List ℕ} {known : Option (List ℕ)} {t u old new before diff : List ℕ}
    → GivenText known t → Headline t style u → old ≡ t → new ≡ u → before ≡ [] → AddsDiff name name old new before diff
    → (diff ≡ before → old ≡ new) → (old ≡ new → diff ≡ before) → DiffOf style name known diff
diff_of {style} {name} {t = t} {u = u} {new = new} {before = before} {diff = diff} given headline is_text is_formatting
    nothing written told same =
    let own : diff ≡ [] → t ≡ u = λ none. sym is_text ∙ (told (none ∙ sym nothing) ∙ is_formatting) in
    record {
      formatted = u;
      rendered = record { text = t; gave = given.gave; headline = headline };
      written = subst (λ (b : List ℕ). AddsDiff name name t u b diff) nothing
          (subst (λ (n : List ℕ). AddsDiff name name t n before diff) is_formatting
          (subst (λ (o : List ℕ). AddsDiff name name o new before diff) is_text written));
      told = own;
      own = λ none. own_formatting headline.kept (own none);
      other = λ some. other_formatting headline.kept (λ is. some (same (is_text ∙ (is ∙ sym is_formatting)) ∙ nothing));
      mended = λ none. subst (λ v. IsMended v style) (sym (own none)) headline.mended;
    }

-- if nothing differs, the text has no fixable finding
pub nothing_is_clean : {style : Style} {name : List ℕ} {known : Option (List ℕ)} {diff : List ℕ} → DiffOf style name known diff → diff ≡ [] → IfSome known (IsClean style)
nothing_is_clean d none = own_is_clean d.rendered (d.told none)

-- and nothing is written
pub nothing_told : {style : Style} {name diff : List ℕ} (input stream : ByteStream) → DiffOf style name input.contents diff → diff ≡ []
    → DiffRun style name input stream stream true
nothing_told {diff = diff} input stream d none = record {
  diff = diff;
  of_text = d;
  wrote = subst (λ (text : List ℕ). Writes stream stream text) (sym none) (wrote_nothing stream);
  answer = sym (ap (λ (text : List ℕ). is_same text) none);
}
