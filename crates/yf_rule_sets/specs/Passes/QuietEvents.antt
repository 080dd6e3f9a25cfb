-- Events for which the rule indentation finds nothing. An index counts events from 0.
use Rattle.std.specs.Prelude.{◌≡◌, ℕ, false, List, slice_get, Some}
use Rattle.yf_events.specs.Event.{scalar_node}
use Rattle.yf_events.specs.Reading.{events_of}
use Rattle.yf_events.specs.declared.event.ScalarStyle.{ScalarStyle}
use Rattle.yf_events.specs.declared.lists.Lists.{Lists}
use Rattle.yf_props.specs.Props.{PropsValue}
use Rattle.yf_rule_sets.specs.RuleSets.Scalars.{is_block_style}

-- the event of index i is a scalar, but not a block scalar
pub record IsQuiet (r : Lists) (i : ℕ) : Type 0 where
  pub props : PropsValue
  pub style : ScalarStyle
  pub text : List ℕ
  pub event : slice_get (events_of r) i ≡ Some (scalar_node props style text)
  pub other : is_block_style style ≡ false
