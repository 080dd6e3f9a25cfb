-- Scalars that are not in the style that the house style gives them.
use Rattle.std.specs.Prelude.{◌≢◌, ℕ, List}
use Rattle.yf_forms.specs.Nodes.ContentStart.{content_start}
use Rattle.yf_forms.specs.Nodes.ScalarStyles.{wanted_of_event}
use Rattle.yf_forms.specs.declared.style.Style.{Style}
use Rattle.yf_events.specs.Event.{scalar_node}
use Rattle.yf_events.specs.declared.event.ScalarStyle.{ScalarStyle}
use Rattle.yf_events.specs.declared.event.Span.{Span}
use Rattle.yf_events.specs.declared.lists.Lists.{Lists}
use Rattle.yf_props.specs.Props.{PropsValue}
use Rattle.yf_rule_sets.specs.RuleSets.Scalars.{IsScalar}

-- quoting: the first character of the content of a scalar, after its properties, if the scalar is not in the wanted
-- style
pub data QuotingFault (t : List ℕ) (r : Lists) (house : Style) (i : ℕ) : ℕ → Type 0 where
  other_style : {props : PropsValue} {style : ScalarStyle} {text : List ℕ} {s : Span} → IsScalar r i props style text s
      → wanted_of_event (scalar_node props style text) house ≢ style → QuotingFault t r house i (content_start t s props)
