-- All rules of style, and which values are those rules.
use Rattle.std.specs.Prelude.{◌≡◌, ℕ, List, [], ◌∷◌, ⊤, map}
use Rattle.std.specs.List.{Contains}
use Rattle.yf_forms.specs.declared.style.Style.{Style}
use Rattle.yf_events.specs.declared.lists.Lists.{Lists}
use Rattle.yf_lines.specs.Lines.{Table}
use Rattle.yf_rule_sets.specs.declared.rules.StyleRule.{StyleRule}
use Rattle.yf_rule_sets.specs.declared.rules.StyleRule.TheVariants.{TrailingBlanks, Indentation, Quoting, DocumentStart, FinalBreak, LineBreaks, ByteOrderMark, BlankLines, FlowLayout, CommentSpace, LineLength, RepeatedKeys, KeyMark, HiddenCharacter}
use Rattle.yf_rules.specs.declared.finding.Finding.{Finding}
use Rattle.yf_rules.specs.Asked.{asked}
use Rattle.yf_rules.specs.Check.{CheckAnswer, RuleFindings}
use Rattle.yf_rule_sets.specs.Definition.{RuleDefinition}
use Rattle.yf_rule_sets.specs.RuleOf.{definition_of}

-- all rules, in the order of their numbers
abbrev pub all_rules : List StyleRule
all_rules =
    TrailingBlanks ∷ Indentation ∷ Quoting ∷ DocumentStart ∷ FinalBreak ∷ LineBreaks ∷ ByteOrderMark ∷ BlankLines
    ∷ FlowLayout ∷ CommentSpace ∷ LineLength ∷ RepeatedKeys ∷ KeyMark ∷ HiddenCharacter ∷ []

-- Each rule is listed.
abbrev pub RulesAreListed : Type 0
RulesAreListed = (rule : StyleRule) → Contains all_rules rule

-- the definition is equivalent to that of the rule: it has its number, its name and whether the house style fixes its
-- findings, and finds the same lists of offsets
pub record IsDefinition (d : RuleDefinition) (rule : StyleRule) : Type 0 where
  pub number : d.number ≡ (definition_of rule).number
  pub id : d.id ≡ (definition_of rule).id
  pub fixable : d.fixable ≡ (definition_of rule).fixable
  pub no_more : (src : Table) (r : Lists) (s : Style) (offsets : List ℕ) → d.faults src r s offsets → (definition_of rule).faults src r s offsets
  pub no_fewer : (src : Table) (r : Lists) (s : Style) (offsets : List ℕ) → (definition_of rule).faults src r s offsets → d.faults src r s offsets

-- the values have the definitions of those rules, one by one
abbrev pub Are : {B : Type 0} → (B → RuleDefinition) → List B → List StyleRule → Type 0
Are definition [] [] = ⊤
Are definition (b ∷ bs) (rule ∷ rules) = IsDefinition (definition b) rule × Are definition bs rules
Are definition [] (rule ∷ rules) = ⊥
Are definition (b ∷ bs) [] = ⊥

-- the names of all rules
abbrev pub rule_names : List (List ℕ)
rule_names = map (λ rule. (definition_of rule).id) all_rules

-- all rules except those with these names
abbrev pub rules_without : List (List ℕ) → List StyleRule
rules_without names = asked definition_of names all_rules

-- If no rule is left out, all are asked.
abbrev pub AllAreAsked : Type 0
AllAreAsked = rules_without [] ≡ all_rules

-- the result of a check by all rules except those with these names
abbrev pub FoundWithout : List (List ℕ) → Style → Table → Lists → List Finding → Type 0
FoundWithout names style src reading findings = CheckAnswer (λ rule found. RuleFindings (definition_of rule) src reading style found) (rules_without names) findings
