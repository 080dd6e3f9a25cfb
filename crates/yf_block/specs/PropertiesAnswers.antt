-- The results of the readers of a line's properties, by the recursive reader: the properties, the text after them,
-- and the fate of those of earlier lines.
use Rattle.std.specs.Prelude.{◌≡◌, ℕ, pos, true, false, List, [], Option, Some, None, MatchOption}
use Rattle.yf_chars.specs.declared.context.Ctx.TheVariants.{FlowKey}
use Rattle.yf_chars.specs.Text.{code}
use Rattle.yf_chars.specs.Class.{is_white}
use Rattle.yf_chars.specs.Chain.{Chosen, Many}
use Rattle.yf_props.specs.Names.{Properties, PropertiesValue}
use Rattle.yf_events.specs.declared.event.Entry as TheEntry
use Rattle.yf_grammar.specs.FlowReader.Parser.{begins_properties}
use Rattle.yf_grammar.specs.BlockReader.BlockParser.{Ahead, Props, PropertiesHeld as HeldValue, SignAt, Clash, Joins, Apart, both}
use Rattle.yf_flow.specs.NodeStarts.{bare_lead}
use Rattle.yf_flow.specs.declared.node.Lead.{Lead}
use Rattle.yf_block.specs.declared.properties.PlacedProperties.{PlacedProperties}
use Rattle.yf_block.specs.BlockStepTied.{PropertiesTied}

-- properties of one line, from one offset to another
abbrev pub line_held : PropertiesValue → ℕ → ℕ → HeldValue
line_held q p g = record { value = q; start = p; end = g }

pub record LineProperties (t : List ℕ) (p : ℕ) (held : PlacedProperties) : Type 0 where
  pub value : PropertiesValue
  pub chosen : Chosen (Properties t (pos 0) FlowKey p) held.end value
  pub tied : PropertiesTied (line_held value p held.end) held
  pub no_comments : value.comments ≡ []

-- the offset of the text after properties that end at g: after white space, or at the `:` of an empty key; no further
-- property is there
pub record PlaceAfter (t : List ℕ) (g p : ℕ) : Type 0 where
  pub whites : List ℕ
  pub run : Many t is_white g p whites
  pub no_white : is_white (code t p) ≡ false
  pub beside : p ≡ g → SignAt t 58 p
  pub no_property : begins_properties (code t p) ≡ false

-- something else is beside the properties, or a further property comes after them
pub data NoPlaceAfter (t : List ℕ) (g : ℕ) : Type 0 where
  other_beside : is_white (code t g) ≡ false → (SignAt t 58 g → ⊥) → NoPlaceAfter t g
  property_after : {p : ℕ} {w : List ℕ} → Many t is_white g p w → is_white (code t p) ≡ false → begins_properties (code t p) ≡ true → NoPlaceAfter t g

-- two optional values are both present
pub data BothThere {A : Type 0} : Option A → Option A → Type 0 where
  both_there : {a b : A} → BothThere (Some a) (Some b)

-- properties of a line after those of earlier lines, as the properties of one node
pub record BothProperties (h : HeldValue) (q : PropertiesValue) (g : ℕ) (held : PlacedProperties) : Type 0 where
  pub apart : Clash h q → ⊥
  pub value : HeldValue
  pub is : both h q g ≡ Props value
  pub tied : PropertiesTied value held

abbrev pub JoinedTo : HeldValue → PropertiesValue → ℕ → Option PlacedProperties → Type 0
JoinedTo h q g result = MatchOption result (Clash h q) (BothProperties h q g)

-- the state ahead holds the properties of earlier lines, or there are none
pub record HoldsProperties (a : Ahead) (held : PlacedProperties) : Type 0 where
  pub value : HeldValue
  pub is : a ≡ Props value
  pub tied : PropertiesTied value held

abbrev pub PropertiesAhead : Ahead → Option PlacedProperties → Type 0
PropertiesAhead a None = (h : HeldValue) → a ≡ Props h → ⊥
PropertiesAhead a (Some held) = HoldsProperties a held

pub record JoinedAhead (a : Ahead) (q : PropertiesValue) (p g : ℕ) (held : PlacedProperties) : Type 0 where
  pub ahead : Ahead
  pub joins : Joins a q p g ahead
  pub tied : HoldsProperties ahead held

abbrev pub JoinedAfter : Ahead → PropertiesValue → ℕ → ℕ → Option PlacedProperties → Type 0
JoinedAfter a q p g result = MatchOption result (Apart a q) (JoinedAhead a q p g)

-- the lead of a node with properties, or of one at an offset that may have none
abbrev pub held_lead : PlacedProperties → Option TheEntry.Entry → Lead
held_lead held entry = record { start = held.start; props = held.props; tag_offset = held.tag_offset; entry = entry }

abbrev pub lead_at : ℕ → Option PlacedProperties → Option TheEntry.Entry → Lead
lead_at at None entry = bare_lead at entry
lead_at at (Some held) entry = held_lead held entry
