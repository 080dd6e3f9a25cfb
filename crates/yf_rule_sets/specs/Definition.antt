-- The definition of a rule.
use Rattle.std.specs.Prelude.{ℕ, Bool, List}
use Rattle.yf_forms.specs.declared.style.Style.{Style}
use Rattle.yf_events.specs.declared.lists.Lists.{Lists}
use Rattle.yf_lines.specs.Lines.{Table}

-- A rule: its number, which orders findings at one position; its name in output; whether formatting removes its
-- findings; and the lists of byte offsets at fault, for a text with these lines and this reading under this style.
pub record RuleDefinition : Type 1 where
  pub number : ℕ
  pub id : List ℕ
  pub fixable : Bool
  pub faults : Table → Lists → Style → List ℕ → Type 0
