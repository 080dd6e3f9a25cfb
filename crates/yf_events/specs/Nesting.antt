-- The test whether events are well nested: one pass with a stack of the states awaited after the open collections.
use Rattle.std.specs.Prelude.{ℕ, suc, zero, ◌-◌, ◌≡◌, Bool, true, false, List, [], ◌∷◌, Option, Some, None, length, reverse}
use Rattle.yf_events.specs.Event.{EventValue, stream_starts, stream_ends, document_starts, document_ends, sequence_starts, sequence_ends, mapping_starts, mapping_ends, scalar_node, alias_node}
use Rattle.yf_events.specs.declared.nesting.NestingState.{NestingState}
use Rattle.yf_events.specs.declared.nesting.NestingState.TheVariants.{Stream, Documents, Root, Closing, Items, Keys, Values, Nothing}
use Rattle.yf_events.specs.declared.nesting.Move.{Move}
use Rattle.yf_events.specs.declared.nesting.Move.TheVariants.{Refuse, Stay, Open, Close}

-- the state awaited after a node
abbrev pub after_node : NestingState → Option NestingState
after_node Stream = None
after_node Documents = None
after_node Root = Some Closing
after_node Closing = None
after_node Items = Some Items
after_node Keys = Some Values
after_node Values = Some Keys
after_node Nothing = None

abbrev pub stay_if : Option NestingState → Move
stay_if None = Refuse
stay_if (Some next) = Stay next

abbrev pub open_if : Option NestingState → NestingState → Move
open_if None within = Refuse
open_if (Some follows) within = Open follows within

abbrev pub at_stream : NestingState → Move
at_stream Stream = Stay Documents
at_stream _ = Refuse

abbrev pub at_documents : NestingState → NestingState → Move
at_documents next Documents = Stay next
at_documents next _ = Refuse

abbrev pub at_closing : NestingState → Move
at_closing Closing = Stay Documents
at_closing _ = Refuse

abbrev pub at_items : NestingState → Move
at_items Items = Close
at_items _ = Refuse

abbrev pub at_keys : NestingState → Move
at_keys Keys = Close
at_keys _ = Refuse

abbrev pub move_at : NestingState → EventValue → Move
move_at top stream_starts = at_stream top
move_at top stream_ends = at_documents Nothing top
move_at top (document_starts marked) = at_documents Root top
move_at top (document_ends marked) = at_closing top
move_at top (sequence_starts flow props) = open_if (after_node top) Items
move_at top sequence_ends = at_items top
move_at top (mapping_starts flow props) = open_if (after_node top) Keys
move_at top mapping_ends = at_keys top
move_at top (scalar_node props style text) = stay_if (after_node top)
move_at top (alias_node name) = stay_if (after_node top)

-- one more collection, if there is room for it
abbrev pub enter : ℕ → (ℕ → Bool) → Bool
enter zero rest = false
enter (suc room) rest = rest room

-- the end of a collection, if one is open
abbrev pub leave : List NestingState → (NestingState → List NestingState → Bool) → Bool
leave [] rest = false
leave (top ∷ below) rest = rest top below

abbrev pub follow : Move → ℕ → List NestingState → (ℕ → NestingState → List NestingState → Bool) → Bool
follow Refuse room below rest = false
follow (Stay next) room below rest = rest room next below
follow (Open follows within) room below rest = enter room (λ r. rest r within (follows ∷ below))
follow Close room below rest = leave below (λ t b. rest (suc room) t b)

abbrev pub is_over : NestingState → List NestingState → Bool
is_over Nothing [] = true
is_over _ _ = false

-- the run with room for further collections, the state awaited here, and the states after the open collections,
-- innermost first
unfoldable pub run : ℕ → NestingState → List NestingState → List EventValue → Bool
run room top below [] = is_over top below
run room top below (e ∷ es) = follow (move_at top e) room below (λ r t b. run r t b es)

-- the run after one event, with the innermost collection last in `below`: it goes on from the new state
abbrev pub runs_on : Option NestingState → ℕ → List NestingState → List EventValue → Bool
runs_on None room below es = false
runs_on (Some top) room below es = run room top below es

pub record NestingStep (limit : ℕ) (top : NestingState) (below : List NestingState) (e : EventValue) (next : Option NestingState) (after : List NestingState) : Type 0 where
  pub same : (es : List EventValue)
      → run (limit - length below) top (reverse below) (e ∷ es) ≡ runs_on next (limit - length after) (reverse after) es
