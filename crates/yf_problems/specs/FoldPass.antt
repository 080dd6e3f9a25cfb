-- The steps of the pass that finds the parts of nodes that may be folded, event by event.
use Rattle.std.specs.Prelude.{ℕ, Bool, List, [], ◌∷◌, ◌++◌, Option, None}
use Rattle.yf_events.specs.Event.{EventValue, EventInText, stream_starts, stream_ends, document_starts, document_ends, sequence_starts, sequence_ends, mapping_starts, mapping_ends, scalar_node, alias_node}
use Rattle.yf_events.specs.declared.event.Entry.{Entry}
use Rattle.yf_events.specs.declared.event.Span.{Span}
use Rattle.yf_server.specs.declared.analysis.Foldable.{Foldable}
use Rattle.yf_problems.specs.Folds.{entry_start, part_of, root_part, scalar_part}

-- the start of the last entry in each open collection, that of the innermost one first
abbrev pub last_entry : List (Option ℕ) → Option ℕ
last_entry [] = None
last_entry (before ∷ st) = before

abbrev pub after : Option Entry → List (Option ℕ) → List (Option ℕ)
after entry [] = []
after entry (before ∷ st) = entry_start before entry ∷ st

abbrev pub without_first : List (Option ℕ) → List (Option ℕ)
without_first [] = []
without_first (before ∷ st) = st

abbrev pub next : EventValue → Option Entry → List (Option ℕ) → List (Option ℕ)
next stream_starts entry st = st
next stream_ends entry st = st
next (document_starts marked) entry st = st
next (document_ends marked) entry st = st
next (sequence_starts flow props) entry st = None ∷ after entry st
next sequence_ends entry st = without_first st
next (mapping_starts flow props) entry st = None ∷ after entry st
next mapping_ends entry st = without_first st
next (scalar_node props style text) entry st = after entry st
next (alias_node name) entry st = after entry st

-- the part of a collection (st: the collections that it is in)
abbrev pub collection_part : List ℕ → Bool → Option Span → Option Entry → List (Option ℕ) → List Foldable
collection_part t flow span entry [] = root_part t flow (entry_start None entry) span
collection_part t flow span entry (before ∷ st) = part_of t (entry_start before entry) span

-- the part that an event begins
abbrev pub found_by : List ℕ → EventValue → Option Span → Option Entry → List (Option ℕ) → List Foldable
found_by t stream_starts span entry st = []
found_by t stream_ends span entry st = []
found_by t (document_starts marked) span entry st = []
found_by t (document_ends marked) span entry st = []
found_by t (sequence_starts flow props) span entry st = collection_part t flow span entry st
found_by t sequence_ends span entry st = []
found_by t (mapping_starts flow props) span entry st = collection_part t flow span entry st
found_by t mapping_ends span entry st = []
found_by t (scalar_node props style text) span entry st = scalar_part t style (entry_start (last_entry st) entry) span
found_by t (alias_node name) span entry st = []

-- the parts found from an event on
abbrev pub run : List ℕ → List (Option ℕ) → List EventInText → List Foldable
run t st [] = []
run t st (e ∷ es) = found_by t e.event e.span e.entry st ++ run t (next e.event e.entry st) es
