-- The start of the content of a scalar.
use Rattle.std.specs.Prelude.{ℕ, List, Option, Some, None}
use Rattle.yf_forms.specs.Nodes.ContentStart.{content_start}
use Rattle.yf_events.specs.declared.event.ScalarStyle.{ScalarStyle}
use Rattle.yf_events.specs.declared.event.Span.{Span}
use Rattle.yf_events.specs.declared.lists.Lists.{Lists}
use Rattle.yf_props.specs.Props.{PropsValue}
use Rattle.yf_rule_sets.specs.RuleSets.Scalars.{IsScalar}

-- the offset of the content of the scalar at the event of index i, or `None` if the event is not a scalar with a span
pub data StartOf (t : List ℕ) (r : Lists) (i : ℕ) : Option ℕ → Type 0 where
  no_part : ((props : PropsValue) (style : ScalarStyle) (text : List ℕ) (s : Span) → IsScalar r i props style text s → ⊥) → StartOf t r i None
  of_part : {props : PropsValue} {style : ScalarStyle} {text : List ℕ} {s : Span} → IsScalar r i props style text s → StartOf t r i (Some (content_start t s props))
