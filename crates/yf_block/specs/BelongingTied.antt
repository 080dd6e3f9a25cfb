-- The owner of the properties on earlier lines: the reader's knowledge of the node on the line before its text,
-- before it is known to be a key.
use Rattle.std.specs.Prelude.{◌≡◌, ◌≢◌, ℕ, List, Option, Some, None}
use Rattle.yf_chars.specs.Text.{code}
use Rattle.yf_events.specs.declared.event.Entry as TheEntry
use Rattle.yf_grammar.specs.BlockReader.BlockParser.{Ahead, Props, PropertiesHeld as HeldValue, Joins, Apart}
use Rattle.yf_flow.specs.declared.node.Lead.{Lead}
use Rattle.yf_block.specs.declared.content.Belonging.{Belonging}
use Rattle.yf_block.specs.declared.content.Belonging.TheVariants.{Nothing as NoBelonging, Joined, Apart as ApartBelonging}
use Rattle.yf_block.specs.declared.properties.PlacedProperties.{PlacedProperties}
use Rattle.yf_block.specs.PropertiesAnswers.{LineProperties, HoldsProperties, held_lead, lead_at}

-- the state ahead of a node whose own properties on the line are these, from p on, or which has none
pub data AfterLine (t : List ℕ) (p : ℕ) (a : Ahead) : Option PlacedProperties → Ahead → Type 0 where
  none_more : AfterLine t p a None a
  more_there : {held : PlacedProperties} {z : Ahead} (l : LineProperties t p held) → Joins a l.value p held.end z → AfterLine t p a (Some held) z

-- why properties of earlier lines can't belong to the node: two are of one kind, or the node is an alias
pub data OfOther (t : List ℕ) (p at : ℕ) (a : Ahead) : Option PlacedProperties → Type 0 where
  two_alike : {held : PlacedProperties} (l : LineProperties t p held) → Apart a l.value → OfOther t p at a (Some held)
  before_alias : {inner : Option PlacedProperties} → code t at ≡ 42 → OfOther t p at a inner

-- the node has all properties, unless it is a key
pub record AllOfNode (t : List ℕ) (p at : ℕ) (a : Ahead) (inner : Option PlacedProperties) (entry : Option TheEntry.Entry) (lead : Lead) : Type 0 where
  pub ahead : Ahead
  pub held : PlacedProperties
  pub joined : AfterLine t p a inner ahead
  pub holds : HoldsProperties ahead held
  pub lead_is : lead ≡ held_lead held entry
  pub no_alias : code t at ≢ 42

pub record OthersBefore (t : List ℕ) (p at : ℕ) (a : Ahead) (inner : Option PlacedProperties) (entry : Option TheEntry.Entry) (lead : Lead) : Type 0 where
  pub before : HeldValue
  pub is : a ≡ Props before
  pub other : OfOther t p at a inner
  pub lead_is : lead ≡ lead_at p inner entry

pub record NoneBefore (t : List ℕ) (p : ℕ) (a : Ahead) (inner : Option PlacedProperties) (entry : Option TheEntry.Entry) (lead : Lead) : Type 0 where
  pub none : (h : HeldValue) → a ≡ Props h → ⊥
  pub lead_is : lead ≡ lead_at p inner entry

abbrev pub BelongingTied : List ℕ → ℕ → ℕ → Ahead → Option PlacedProperties → Option TheEntry.Entry → Lead → Belonging → Type 0
BelongingTied t p at a inner entry lead NoBelonging = NoneBefore t p a inner entry lead
BelongingTied t p at a inner entry lead Joined = AllOfNode t p at a inner entry lead
BelongingTied t p at a inner entry lead ApartBelonging = OthersBefore t p at a inner entry lead
