-- The steps of the pass that finds keys and items without a value, event by event.
use Rattle.std.specs.Prelude.{ℕ, Bool, true, false, not, if◌then◌else◌, List, [], ◌∷◌, ◌++◌, Option, Some, None}
use Rattle.yf_events.specs.Event.{EventValue, EventInText, stream_starts, stream_ends, document_starts, document_ends, sequence_starts, sequence_ends, mapping_starts, mapping_ends, scalar_node, alias_node}
use Rattle.yf_guard.specs.Guards.{is_empty_scalar}
use Rattle.yf_lint.specs.EmptyValues.{offset_if, start_of}
use Rattle.yf_lint.specs.declared.empty_values.OpenEntries.{OpenEntries}

abbrev pub opened : Bool → OpenEntries
opened is_map = record { is_map = is_map; at_value = false; key_start = 0 }

abbrev pub last_key : OpenEntries → ℕ → ℕ
last_key c start = if c.at_value then c.key_start else start

abbrev pub turned : ℕ → OpenEntries → OpenEntries
turned start c = record { is_map = c.is_map; at_value = not c.at_value; key_start = last_key c start }

abbrev pub fault_in : OpenEntries → ℕ → Option ℕ
fault_in c start = if c.is_map then (if c.at_value then Some c.key_start else None) else Some start

abbrev pub faults : Bool → Option ℕ → List ℕ
faults is_empty None = []
faults is_empty (Some offset) = offset_if is_empty offset

-- the open collections, the innermost first
abbrev pub after : ℕ → List OpenEntries → List OpenEntries
after start [] = []
after start (c ∷ st) = turned start c ∷ st

abbrev pub without_first : List OpenEntries → List OpenEntries
without_first [] = []
without_first (c ∷ st) = st

abbrev pub found_at : Bool → ℕ → List OpenEntries → List ℕ
found_at is_empty start [] = []
found_at is_empty start (c ∷ st) = faults is_empty (fault_in c start)

abbrev pub next : EventValue → ℕ → List OpenEntries → List OpenEntries
next stream_starts start st = st
next stream_ends start st = st
next (document_starts marked) start st = st
next (document_ends marked) start st = st
next (sequence_starts flow props) start st = opened false ∷ after start st
next sequence_ends start st = without_first st
next (mapping_starts flow props) start st = opened true ∷ after start st
next mapping_ends start st = without_first st
next (scalar_node props style text) start st = after start st
next (alias_node name) start st = after start st

abbrev pub found_by : EventValue → ℕ → List OpenEntries → List ℕ
found_by stream_starts start st = []
found_by stream_ends start st = []
found_by (document_starts marked) start st = []
found_by (document_ends marked) start st = []
found_by (sequence_starts flow props) start st = found_at false start st
found_by sequence_ends start st = []
found_by (mapping_starts flow props) start st = found_at false start st
found_by mapping_ends start st = []
found_by (scalar_node props style text) start st = found_at (is_empty_scalar props style text) start st
found_by (alias_node name) start st = found_at false start st

-- the offsets found from an event on
abbrev pub run : List OpenEntries → List EventInText → List ℕ
run st [] = []
run st (e ∷ es) = found_by e.event (start_of e.span e.entry) st ++ run (next e.event (start_of e.span e.entry) st) es
