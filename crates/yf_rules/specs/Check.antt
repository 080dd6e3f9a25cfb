-- The result of a check: the findings of each rule, one rule after the other, and then sorted.
use Rattle.std.specs.Prelude.{◌≡◌, ℕ, Bool, List, [], ◌∷◌, ◌++◌, map}
use Rattle.std.specs.List.Sorted.{IsPermutation, IsSortedByKey, IsStableByKey}
use Rattle.std.specs.Ordering.{nat_cmp, ordering_then}
use Rattle.std.specs.declared.cmp.Ordering.{Ordering}
use Rattle.yf_lines.specs.declared.place.Position.{Position}
use Rattle.std.specs.Borrow.{Bor}
use Rattle.yf_lines.specs.Lines.{Table}
use Rattle.yf_events.specs.declared.lists.Lists.{Lists}
use Rattle.yf_forms.specs.declared.style.Style.{Style}
use Rattle.yf_rules.specs.declared.finding.Finding.{Finding}
use Rattle.yf_rule_sets.specs.Definition.{RuleDefinition}
use Rattle.yf_rule_sets.specs.RuleSets.Places.{Ascending, FoundAt}

-- the finding at a position
abbrev pub finding_at : ℕ → Bor (List ℕ) → Bool → Position → Finding
finding_at number id fixable place = record { place = place; number = number; id = id; fixable = fixable }

-- the findings of a rule with this number and name: one at each position that it finds, in the order of the text. The
-- positions ascend strictly, so each occurs once.
pub data FindingsOf (rule_number : ℕ) (rule_id : List ℕ) (is_fixable : Bool) (Finds : List Position → Type 0) (findings : List Finding) : Type 0 where
  at_places : {places : List Position} (number : ℕ) (id : Bor (List ℕ)) (fixable : Bool) → number ≡ rule_number → id.now ≡ rule_id
      → fixable ≡ is_fixable → Finds places → Ascending places → findings ≡ map (finding_at number id fixable) places
      → FindingsOf rule_number rule_id is_fixable Finds findings

-- the findings of a rule with this definition, in a text with this reading under this style
abbrev pub RuleFindings : RuleDefinition → Table → Lists → Style → List Finding → Type 0
RuleFindings rule src reading style findings =
    FindingsOf rule.number rule.id rule.fixable (FoundAt src.text (rule.faults src reading style)) findings

-- the findings of the rules, once for each, one rule after the other; R relates a rule to its findings
pub data InOrder {B : Type 0} (R : B → List Finding → Type 0) : List B → List Finding → Type 0 where
  no_rules : InOrder R [] []
  one_more : {bs : List B} {b : B} {x y : List Finding} → InOrder R bs x → R b y → InOrder R (bs ++ b ∷ []) (x ++ y)

-- the sort key of findings: line, column and number
abbrev pub sort_key : Finding → ℕ × ℕ × ℕ
sort_key f = (f.place.line, f.place.column, f.number)

abbrev pub key_cmp : ℕ × ℕ × ℕ → ℕ × ℕ × ℕ → Ordering
key_cmp a b = ordering_then (ordering_then (nat_cmp a.0 b.0) (nat_cmp a.1 b.1)) (nat_cmp a.2 b.2)

-- the findings in sorted order; those with equal line, column and number keep their order
pub record SortedFrom (all sorted : List Finding) : Type 0 where
  pub same : IsPermutation all sorted
  pub order : IsSortedByKey sort_key key_cmp sorted
  pub stable : IsStableByKey sort_key key_cmp all sorted

-- the result of a check
pub data CheckAnswer {B : Type 0} (R : B → List Finding → Type 0) (rules : List B) (findings : List Finding) : Type 0 where
  checked : {all : List Finding} → InOrder R rules all → SortedFrom all findings → CheckAnswer R rules findings
