-- The law that a formatted text has no fixable finding, for each rule.
use Rattle.std.specs.Prelude.{◌≡◌, ℕ, true, List, []}
use Rattle.std.specs.Str.{IsUtf8}
use Rattle.yf_lines.specs.Lines.{AreLines, Table}
use Rattle.yf_events.specs.declared.lists.Lists.{Lists}
use Rattle.yf_stream.specs.ReadingOf.{ReadingOf}
use Rattle.yf_forms.specs.declared.style.Style.{Style}
use Rattle.yf_laws.specs.Format.{IsFormatting}
use Rattle.yf_rule_sets.specs.Definition.{RuleDefinition}
use Rattle.yf_rule_sets.specs.RuleOf.{definition_of}
use Rattle.yf_rule_sets.specs.declared.rules.StyleRule.{StyleRule}

-- the text of the table is a formatting of some text in this style, the lines are its lines, and r is its reading
pub record IsFormatted (src : Table) (r : Lists) (s : Style) : Type 0 where
  pub source : List ℕ
  pub utf8 : IsUtf8 source
  pub formats : IsFormatting source s src.text
  pub lines : AreLines src.text src.lines
  pub reads : ReadingOf src.text r

-- In a formatted text the rule finds nothing, if the house style fixes its findings.
abbrev pub FormatsAreMended : RuleDefinition → Type 0
FormatsAreMended rule = rule.fixable ≡ true → (src : Table) (r : Lists) (s : Style) → IsFormatted src r s → (offsets : List ℕ) → rule.faults src r s offsets → offsets ≡ []

-- This holds for each rule.
abbrev pub RulesAreMended : Type 0
RulesAreMended = (rule : StyleRule) → FormatsAreMended (definition_of rule)

-- the rule finds nothing in u: for each table of its lines and each reading of it, each list of findings is empty
abbrev pub IsFreeOf : List ℕ → Style → RuleDefinition → Type 0
IsFreeOf u s rule =
    (src : Table) (q : Lists) → src.text ≡ u → AreLines u src.lines → ReadingOf u q → (offsets : List ℕ) → rule.faults src q s offsets → offsets ≡ []

-- u has no finding of a rule that the house style fixes
abbrev pub IsMended : List ℕ → Style → Type 0
IsMended u s = (rule : StyleRule) → (definition_of rule).fixable ≡ true → IsFreeOf u s (definition_of rule)
