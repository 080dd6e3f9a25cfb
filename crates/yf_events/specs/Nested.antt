-- Well nested events: each collection's end is after its nodes, a mapping holds pairs, each document has one root
-- node, and no more collections than a limit are open at once.
use Rattle.std.specs.Prelude.{ℕ, suc, Bool, List, [], ◌∷◌, ◌++◌}
use Rattle.yf_props.specs.Props.{PropsValue}
use Rattle.yf_events.specs.declared.event.ScalarStyle.{ScalarStyle}
use Rattle.yf_events.specs.Event.{EventValue, stream_starts, stream_ends, document_starts, document_ends, sequence_starts, sequence_ends, mapping_starts, mapping_ends, scalar_node, alias_node}

-- the part of a stream that a list of events is
pub data Shape : Type 0 where
  one_node : Shape
  many_nodes : Shape
  many_pairs : Shape
  many_documents : Shape

-- the events of such a part, with at most as many collections open at once as the limit
pub data NestsWithin : Shape → ℕ → List EventValue → Type 0 where
  a_scalar : {d : ℕ} {props : PropsValue} {style : ScalarStyle} {text : List ℕ}
      → NestsWithin one_node d (scalar_node props style text ∷ [])
  an_alias : {d : ℕ} {name : List ℕ} → NestsWithin one_node d (alias_node name ∷ [])
  a_sequence : {d : ℕ} {flow : Bool} {props : PropsValue} {x : List EventValue}
      → NestsWithin many_nodes d x → NestsWithin one_node (suc d) (sequence_starts flow props ∷ (x ++ (sequence_ends ∷ [])))
  a_mapping : {d : ℕ} {flow : Bool} {props : PropsValue} {x : List EventValue}
      → NestsWithin many_pairs d x → NestsWithin one_node (suc d) (mapping_starts flow props ∷ (x ++ (mapping_ends ∷ [])))
  no_nodes : {d : ℕ} → NestsWithin many_nodes d []
  more_nodes : {d : ℕ} {x y : List EventValue} → NestsWithin one_node d x → NestsWithin many_nodes d y → NestsWithin many_nodes d (x ++ y)
  no_pairs : {d : ℕ} → NestsWithin many_pairs d []
  more_pairs : {d : ℕ} {k v y : List EventValue} → NestsWithin one_node d k → NestsWithin one_node d v → NestsWithin many_pairs d y
      → NestsWithin many_pairs d (k ++ (v ++ y))
  no_documents : {d : ℕ} → NestsWithin many_documents d []
  more_documents : {d : ℕ} {marked : Bool} {x y : List EventValue} (closed : Bool) → NestsWithin one_node d x → NestsWithin many_documents d y
      → NestsWithin many_documents d (document_starts marked ∷ (x ++ (document_ends closed ∷ y)))

-- the events of a whole stream
pub data IsStream : ℕ → List EventValue → Type 0 where
  a_stream : {d : ℕ} {x : List EventValue} → NestsWithin many_documents d x
      → IsStream d (stream_starts ∷ (x ++ (stream_ends ∷ [])))
