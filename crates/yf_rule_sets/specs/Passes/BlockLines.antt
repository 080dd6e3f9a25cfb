-- The lines of a scalar in the code, if only block scalars are asked for.
use Rattle.std.specs.Prelude.{◌≡◌, ℕ, true, List, Option, None}
use Rattle.yf_events.specs.declared.event.ScalarStyle.{ScalarStyle}
use Rattle.yf_events.specs.declared.event.Span.{Span}
use Rattle.yf_events.specs.declared.lists.Lists.{Lists}
use Rattle.yf_lines.specs.Lines.{Table}
use Rattle.yf_props.specs.Props.{PropsValue}
use Rattle.yf_rule_sets.specs.Passes.ScalarLines.{LinesOfScalar}
use Rattle.yf_rule_sets.specs.RuleSets.Scalars.{IsScalar, is_block_style}
use Rattle.yf_rule_sets.specs.declared.facts.scalars.ScalarLines.{ScalarLines}

-- the result for the event of index i, which is `None` if the event is not a block scalar
pub data LinesOfBlock (src : Table) (r : Lists) (i : ℕ) : Option ScalarLines → Type 0 where
  other_style : ((props : PropsValue) (style : ScalarStyle) (text : List ℕ) (s : Span) → IsScalar r i props style text s → is_block_style style ≡ true → ⊥) → LinesOfBlock src r i None
  same_lines : {answer : Option ScalarLines} → LinesOfScalar src r i answer → LinesOfBlock src r i answer
