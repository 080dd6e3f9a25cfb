-- Which events begin keys of block mappings outside of flow collections: a pass over the events, which keeps for each
-- open collection the role of its next node.
use Rattle.std.specs.Prelude.{◌≡◌, ℕ, Bool, true, false, ◌||◌, if◌then◌else◌, List, [], ◌∷◌, drop, Option}
use Rattle.yf_events.specs.Event.{EventValue, EventInText, stream_starts, stream_ends, document_starts, document_ends, sequence_starts, sequence_ends, mapping_starts, mapping_ends, scalar_node, alias_node}
use Rattle.yf_events.specs.WellPlaced.{begins_node}
use Rattle.yf_events.specs.declared.lists.Lists.{Lists}
use Rattle.yf_forms.specs.Nodes.ImplicitKeys.{is_atom, is_implicit_atom}
use Rattle.yf_forms.specs.declared.style.Style.{Style}
use Rattle.yf_rule_sets.specs.RuleSets.Exact.{IsTheOne}
use Rattle.yf_rule_sets.specs.RuleSets.QuestionMarks.{IsMarked}
use Rattle.yf_rule_sets.specs.declared.facts.block_keys.Role.{Role}
use Rattle.yf_rule_sets.specs.declared.facts.block_keys.Role.TheVariants.{InFlow, Item, Key, Value}

abbrev pub in_flow : Role → Bool
in_flow InFlow = true
in_flow Item = false
in_flow Key = false
in_flow Value = false

abbrev pub is_key : Role → Bool
is_key InFlow = false
is_key Item = false
is_key Key = true
is_key Value = false

-- the role of the next node in the same collection
abbrev pub following : Role → Role
following InFlow = InFlow
following Item = Item
following Key = Value
following Value = Key

-- the role of the next node; the list has the role of the next node of each open collection, the innermost first
abbrev pub next_role : List Role → Role
next_role [] = Item
next_role (m ∷ st) = m

-- the list after that node
abbrev pub after : List Role → List Role
after [] = []
after (m ∷ st) = following m ∷ st

-- the role of the first node of a collection with the role m: `first` in a block collection outside of flow collections
abbrev pub first_role : Role → Bool → Role → Role
first_role m flow first = if flow || in_flow m then InFlow else first

-- the list after one event
abbrev pub next : EventValue → List Role → List Role
next stream_starts st = st
next stream_ends st = st
next (document_starts marked) st = st
next (document_ends closed) st = st
next (sequence_starts flow props) st = first_role (next_role st) flow Item ∷ after st
next sequence_ends st = drop 1 st
next (mapping_starts flow props) st = first_role (next_role st) flow Key ∷ after st
next mapping_ends st = drop 1 st
next (scalar_node props style text) st = after st
next (alias_node name) st = after st

-- the role of the next node, at each event
abbrev pub roles : List Role → List EventInText → List Role
roles st [] = []
roles st (e ∷ es) = next_role st ∷ roles (next e.event st) es

-- the role of the node that an event begins; for another event, a role other than that of a key
abbrev pub role_at : EventValue → List Role → Role
role_at v st = if begins_node v then next_role st else Item

-- the event v of the index i begins a key, by its role, after the `?` at the offset; v is a scalar or an alias, which
-- the house style writes without `?` as a key
pub record MarkedAtom (t : List ℕ) (r : Lists) (house : Style) (i : ℕ) (role : Role) (v : EventValue) (offset : ℕ) : Type 0 where
  pub key : is_key role ≡ true
  pub implicit : is_implicit_atom house v ≡ true
  pub marked : IsMarked t r i offset

-- `answer` is the `?` before such a key, if there is one; and v is a scalar or an alias if it is a key after a `?`
pub record AnswersAtom (t : List ℕ) (r : Lists) (house : Style) (i : ℕ) (role : Role) (v : EventValue) (answer : Option ℕ) : Type 0 where
  pub exact : IsTheOne (MarkedAtom t r house i role v) answer
  pub atom : is_key role ≡ true → (offset : ℕ) → IsMarked t r i offset → is_atom v ≡ true
