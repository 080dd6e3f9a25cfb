-- The steps of the pass that finds ambiguous plain scalars, event by event.
use Rattle.std.specs.Prelude.{ℕ, Bool, true, List, [], ◌∷◌, ◌++◌}
use Rattle.yf_events.specs.Event.{EventValue, EventInText, stream_starts, stream_ends, document_starts, document_ends}
use Rattle.yf_events.specs.Event.{sequence_starts, sequence_ends, mapping_starts, mapping_ends, scalar_node, alias_node}
use Rattle.yf_lint.specs.AmbiguousPlains.{is_at_fault}
use Rattle.yf_lint.specs.Anchors.{start_of}
use Rattle.yf_lint.specs.EmptyValues.{offset_if}
use Rattle.yf_lint.specs.declared.ambiguous_plains.NextNode.{NextNode}
use Rattle.yf_lint.specs.declared.ambiguous_plains.NextNode.TheVariants.{Item, Key, Value}

abbrev pub turned : NextNode → NextNode
turned Item = Item
turned Key = Value
turned Value = Key

-- whether a scalar counts that comes next
abbrev pub node_counts : Bool → NextNode → Bool
node_counts keys Item = true
node_counts keys Key = keys
node_counts keys Value = true

-- what comes next in the open collections, the innermost first
abbrev pub counts : Bool → List NextNode → Bool
counts keys [] = true
counts keys (n ∷ st) = node_counts keys n

abbrev pub after : List NextNode → List NextNode
after [] = []
after (n ∷ st) = turned n ∷ st

abbrev pub without_first : List NextNode → List NextNode
without_first [] = []
without_first (n ∷ st) = st

abbrev pub next : EventValue → List NextNode → List NextNode
next stream_starts st = st
next stream_ends st = st
next (document_starts marked) st = st
next (document_ends marked) st = st
next (sequence_starts flow props) st = Item ∷ after st
next sequence_ends st = without_first st
next (mapping_starts flow props) st = Key ∷ after st
next mapping_ends st = without_first st
next (scalar_node props style text) st = after st
next (alias_node name) st = after st

abbrev pub found_by : Bool → EventValue → ℕ → List NextNode → List ℕ
found_by keys stream_starts start st = []
found_by keys stream_ends start st = []
found_by keys (document_starts marked) start st = []
found_by keys (document_ends marked) start st = []
found_by keys (sequence_starts flow props) start st = []
found_by keys sequence_ends start st = []
found_by keys (mapping_starts flow props) start st = []
found_by keys mapping_ends start st = []
found_by keys (scalar_node props style text) start st = offset_if (is_at_fault (counts keys st) props style text) start
found_by keys (alias_node name) start st = []

-- the offsets found from an event on
abbrev pub run : Bool → List NextNode → List EventInText → List ℕ
run keys st [] = []
run keys st (e ∷ es) = found_by keys e.event (start_of e.span) st ++ run keys (next e.event st) es
