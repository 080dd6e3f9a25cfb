-- A text has one list of findings.
use Rattle.std.specs.Prelude.{◌≡◌, ℕ, Bool, List, map}
use Rattle.std.specs.Str.{IsUtf8}
use Rattle.yf_lines.specs.declared.place.Position.{Position}
use Rattle.yf_forms.specs.declared.style.Style.{Style}
use Rattle.yf_rules.specs.AllRules.{FoundWithout}
use Rattle.yf_rules.specs.Findings.{FoundIn}
use Rattle.yf_rules.specs.declared.finding.Finding.{Finding}

-- the values of a finding: its position, the number and the name of its rule, and whether the house style fixes it. The
-- name is its bytes, not its address
abbrev pub finding_values : Finding → Position × ℕ × List ℕ × Bool
finding_values f = (f.place, f.number, f.id.now, f.fixable)

-- A text has only one list of findings in a style, whichever rules are left out: any two lists of the rules' findings
-- in it have equal values in the same order.
abbrev pub FindingsAreOne : Type 0
FindingsAreOne = (t : List ℕ) (style : Style) (without : List (List ℕ)) (x y : List Finding) → IsUtf8 t
    → FoundIn (FoundWithout without style) style t x → FoundIn (FoundWithout without style) style t y
    → map finding_values y ≡ map finding_values x
