-- The state that the pass keeps for each open collection.
use Rattle.std.specs.Prelude.{ℕ, Bool, true, false, not, ◌&&◌, if◌then◌else◌, List, [], ◌∷◌}
use Rattle.yf_guard.specs.declared.open_collection.NodeKind.{NodeKind}
use Rattle.yf_guard.specs.declared.open_collection.NodeKind.TheVariants.{Empty, Mapping, Other}
use Rattle.yf_guard.specs.declared.open_collection.OpenCollection.{OpenCollection}
use Rattle.yf_guard.specs.declared.open_collection.Seen.{Seen}
use Rattle.yf_guard.specs.declared.open_collection.Seen.TheVariants.{Nothing, First, Pair, More}

abbrev pub opened : Bool → ℕ → OpenCollection
opened flow offset = record { offset = offset; flow = flow; at_value = false; has_no_values = true; seen = Nothing }

abbrev pub is_empty_kind : NodeKind → Bool
is_empty_kind Empty = true
is_empty_kind (Mapping flow has_no_values) = false
is_empty_kind Other = false

abbrev pub doubles_kind : Bool → NodeKind → Bool
doubles_kind flow Empty = false
doubles_kind flow (Mapping inner has_no_values) = if flow then inner else (not inner && has_no_values)
doubles_kind flow Other = false

abbrev pub seen_after : Bool → NodeKind → Seen → Seen
seen_after flow kind Nothing = First (doubles_kind flow kind)
seen_after flow kind (First doubles) = Pair (doubles && is_empty_kind kind)
seen_after flow kind (Pair is_template) = More
seen_after flow kind More = More

abbrev pub no_values_after : OpenCollection → NodeKind → Bool
no_values_after c kind = if c.at_value then c.has_no_values && is_empty_kind kind else c.has_no_values

abbrev pub with_node : NodeKind → OpenCollection → OpenCollection
with_node kind c = record {
  offset = c.offset;
  flow = c.flow;
  at_value = not c.at_value;
  has_no_values = no_values_after c kind;
  seen = seen_after c.flow kind c.seen;
}

abbrev pub end_kind : Bool → OpenCollection → NodeKind
end_kind true c = Mapping c.flow c.has_no_values
end_kind false c = Other

abbrev pub is_template_seen : Seen → Bool
is_template_seen Nothing = false
is_template_seen (First doubles) = false
is_template_seen (Pair is_template) = is_template
is_template_seen More = false

-- the open collections, the innermost first, after a node, and after the end of the innermost one
abbrev pub after : NodeKind → List OpenCollection → List OpenCollection
after kind [] = []
after kind (c ∷ st) = with_node kind c ∷ st

abbrev pub closed : Bool → List OpenCollection → List OpenCollection
closed is_map [] = []
closed is_map (c ∷ st) = after (end_kind is_map c) st
