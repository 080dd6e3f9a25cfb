-- Values that are the rules find what the rules find.
use Rattle.std.proofs.Common.{◌≡◌, ℕ, Bool, true, false, Option, List, [], ◌∷◌, ◌++◌, refl, ap, sym, subst, ◌∙◌, arith}
use Rattle.std.specs.Prelude.{cond, not}
use Rattle.yf_forms.specs.declared.style.Style.{Style}
use Rattle.yf_events.specs.declared.lists.Lists.{Lists}
use Rattle.yf_lines.specs.Lines.{Table}
use Rattle.yf_rules.specs.declared.finding.Finding.{Finding}
use Rattle.yf_rule_sets.specs.declared.rules.StyleRule.{StyleRule}
use Rattle.yf_rule_sets.specs.declared.rules.StyleRule.TheVariants.{TrailingBlanks, Indentation, Quoting, DocumentStart, FinalBreak, LineBreaks, ByteOrderMark, BlankLines, FlowLayout, CommentSpace, LineLength, RepeatedKeys, KeyMark, HiddenCharacter}
use Rattle.yf_rules.specs.AllRules.{Are, FoundWithout, IsDefinition, RulesAreListed, all_rules, rules_without}
use Rattle.yf_rules.specs.Asked.{asked, is_among}
use Rattle.yf_rules.specs.Check.{CheckAnswer, InOrder, RuleFindings}
use Rattle.yf_rules.specs.Check.CheckAnswer.{checked}
use Rattle.yf_rules.specs.Check.FindingsOf.{at_places}
use Rattle.yf_rules.specs.Check.InOrder.{no_rules, one_more}
use Rattle.yf_rule_sets.specs.Definition.{RuleDefinition}
use Rattle.yf_rule_sets.specs.RuleSets.Places.{FoundAt}
use Rattle.yf_rule_sets.specs.RuleSets.Places.FoundAt.{found_at}
use Rattle.yf_rule_sets.specs.RuleOf.{definition_of}

-- each rule is listed, at its number less one
pub rules_are_listed : RulesAreListed
rules_are_listed TrailingBlanks = (0, omega arith, refl)
rules_are_listed Indentation = (1, omega arith, refl)
rules_are_listed Quoting = (2, omega arith, refl)
rules_are_listed DocumentStart = (3, omega arith, refl)
rules_are_listed FinalBreak = (4, omega arith, refl)
rules_are_listed LineBreaks = (5, omega arith, refl)
rules_are_listed ByteOrderMark = (6, omega arith, refl)
rules_are_listed BlankLines = (7, omega arith, refl)
rules_are_listed FlowLayout = (8, omega arith, refl)
rules_are_listed CommentSpace = (9, omega arith, refl)
rules_are_listed LineLength = (10, omega arith, refl)
rules_are_listed RepeatedKeys = (11, omega arith, refl)
rules_are_listed KeyMark = (12, omega arith, refl)
rules_are_listed HiddenCharacter = (13, omega arith, refl)

-- the definition of a rule is a definition for it
pub is_definition : (d : RuleDefinition) (rule : StyleRule) → d ≡ definition_of rule → IsDefinition d rule
is_definition d rule same = record {
  number = ap (λ (e : RuleDefinition). e.number) same;
  id = ap (λ (e : RuleDefinition). e.id) same;
  fixable = ap (λ (e : RuleDefinition). e.fixable) same;
  no_more = λ src r s os h. subst (λ (e : RuleDefinition). e.faults src r s os) same h;
  no_fewer = λ src r s os h. subst (λ (e : RuleDefinition). e.faults src r s os) (sym same) h;
}

module _ (src : Table) (reading : Lists) (style : Style) where
  places_same : {d : RuleDefinition} {rule : StyleRule} {ps : _} → IsDefinition d rule → FoundAt src.text (d.faults src reading style) ps
      → FoundAt src.text ((definition_of rule).faults src reading style) ps
  places_same is (found_at {os = os} f p) = found_at (is.no_more src reading style os f) p

  -- the rule finds what its definition finds
  rule_finds : {d : RuleDefinition} {rule : StyleRule} {found : List Finding} → IsDefinition d rule → RuleFindings d src reading style found
      → RuleFindings (definition_of rule) src reading style found
  rule_finds is (at_places number id fixable n i f places ascend are) =
      at_places number id fixable (n ∙ is.number) (i ∙ is.id) (f ∙ is.fixable) (places_same is places) ascend are

-- the last of the values is the last of the rules
record Last {B : Type 0} (definition : B → RuleDefinition) (bs : List B) (b : B) (rules : List StyleRule) : Type 0 where
  before : List StyleRule
  last : StyleRule
  split : rules ≡ before ++ last ∷ []
  are : Are definition bs before
  is : IsDefinition (definition b) last

last_of : {B : Type 0} (definition : B → RuleDefinition) (bs : List B) (b : B) (rules : List StyleRule) → Are definition (bs ++ b ∷ []) rules
    → Last definition bs b rules
last_of definition [] b [] are = absurd are
last_of definition [] b (r ∷ []) are = record { before = []; last = r; split = refl; are = tt; is = are.0 }
last_of definition [] b (r ∷ s ∷ rules) are = absurd are.1
last_of definition (c ∷ bs) b [] are = absurd are
last_of definition (c ∷ bs) b (r ∷ rules) are =
    let rest = last_of definition bs b rules are.1 in
    record { before = r ∷ rest.before; last = rest.last; split = ap (λ (l : List StyleRule). r ∷ l) rest.split; are = (are.0, rest.are); is = rest.is }

-- if values are rules, those that are asked are the rules that are asked
module _ {B : Type 0} (definition : B → RuleDefinition) (without : List (List ℕ)) where
  one_more_are : (b : B) (bs : List B) (rule : StyleRule) (rules : List StyleRule) (is_asked : Bool) → IsDefinition (definition b) rule → Are definition bs rules
      → Are definition (cond is_asked (b ∷ bs) bs) (cond is_asked (rule ∷ rules) rules)
  one_more_are b bs rule rules true is are = (is, are)
  one_more_are b bs rule rules false is are = are

  asked_are : (bs : List B) (rules : List StyleRule) → Are definition bs rules → Are definition (asked definition without bs) (asked definition_of without rules)
  asked_are [] [] are = tt
  asked_are (b ∷ bs) (rule ∷ rules) are =
      subst (λ t. Are definition (asked definition without (b ∷ bs)) (cond t (rule ∷ asked definition_of without rules) (asked definition_of without rules)))
      (ap (λ id. not (is_among without id)) are.0.id)
      (one_more_are b (asked definition without bs) rule (asked definition_of without rules) (not (is_among without (definition b).id)) are.0 (asked_are bs rules are.1))
  asked_are [] (rule ∷ rules) are = absurd are
  asked_are (b ∷ bs) [] are = absurd are

module _ {B : Type 0} (definition : B → RuleDefinition) (src : Table) (reading : Lists) (style : Style) where
  -- the rules in sequence
  in_order : {bs : List B} {found : List Finding} (rules : List StyleRule) → Are definition bs rules
      → InOrder (λ b x. RuleFindings (definition b) src reading style x) bs found
      → InOrder (λ rule x. RuleFindings (definition_of rule) src reading style x) rules found
  in_order [] are no_rules = no_rules
  in_order (r ∷ rules) are no_rules = absurd are
  in_order rules are (one_more {bs = bs} {b = b} {x = x} {y = y} front last) =
      let l = last_of definition bs b rules are in
      subst (λ (rs : List StyleRule). InOrder (λ rule z. RuleFindings (definition_of rule) src reading style z) rs (x ++ y)) (sym l.split)
      (one_more (in_order l.before l.are front) (rule_finds src reading style l.is last))

  -- all rules except those that are left out
  pub all_find : (without : List (List ℕ)) (bs : List B) (findings : List Finding) → Are definition bs all_rules
      → CheckAnswer (λ b x. RuleFindings (definition b) src reading style x) (asked definition without bs) findings → FoundWithout without style src reading findings
  all_find without bs findings are (checked order sorted) = checked (in_order (rules_without without) (asked_are definition without bs all_rules are) order) sorted
