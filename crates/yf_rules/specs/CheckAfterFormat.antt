-- A check of a formatted text.
use Rattle.std.specs.Prelude.{ℕ, List}
use Rattle.yf_events.specs.declared.lists.Lists.{Lists}
use Rattle.yf_lines.specs.Lines.{Table}
use Rattle.yf_forms.specs.declared.style.Style.{Style}
use Rattle.yf_laws.specs.Mended.{IsFormatted}
use Rattle.yf_rules.specs.declared.finding.Finding.{Finding}
use Rattle.yf_rules.specs.AllRules.{FoundWithout}
use Rattle.yf_rules.specs.NothingToFix.{NoneFixable}

-- In a text that is a formatting in a style, no finding of the rules with that style is fixable, whichever rules are
-- left out, for each table of its lines and each reading of it.
abbrev pub FormattedTextsAreClean : Type 0
FormattedTextsAreClean = (src : Table) (reading : Lists) (style : Style) (without : List (List ℕ)) (findings : List Finding) → IsFormatted src reading style → FoundWithout without style src reading findings → NoneFixable findings
