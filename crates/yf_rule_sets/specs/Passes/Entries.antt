-- Entries in the events of a reading, as functions: the offsets and columns of the first entries of block collections,
-- and which entries have no `?`. An index counts events from 0, a column from 0.
use Rattle.std.specs.Prelude.{ℕ, ◌+◌, ◌-◌, ◌==◌, ◌&&◌, ◌||◌, nat_le, nat_lt, slice_index, if◌then◌else◌, Bool, false, not, List, [], ◌∷◌, drop, get_or, length, Option, Some, None}
use Rattle.yf_chars.specs.Class.{is_white_or_end}
use Rattle.yf_chars.specs.Text.{code}
use Rattle.yf_events.specs.Event.{EventValue, EventInText, sequence_starts, mapping_starts}
use Rattle.yf_events.specs.declared.event.Entry.{Entry}

-- the offset is a boundary
abbrev pub is_boundary : List ℕ → ℕ → Bool
is_boundary t i = nat_le i (length t) && (nat_le (length t) i || (nat_lt (slice_index t i) 128 || nat_le 192 (slice_index t i)))

-- the offset of the entry, if it is a boundary
abbrev pub start_at : List ℕ → Option Entry → Option ℕ
start_at t None = None
start_at t (Some entry) = if is_boundary t entry.start then Some entry.start else None

-- the entry of the first of these events
abbrev pub first_entry : List EventInText → Option Entry
first_entry [] = None
first_entry (e ∷ es) = e.entry

abbrev pub starts_block : EventValue → Bool
starts_block (sequence_starts flow props) = not flow
starts_block (mapping_starts flow props) = not flow
starts_block _ = false

-- the offset of the first entry of the block collection that the first of these events begins
abbrev pub entries_from : List ℕ → List EventInText → Option ℕ
entries_from t [] = None
entries_from t (e ∷ es) = if starts_block e.event then start_at t (first_entry es) else None

-- these offsets, after another one if it is present
abbrev pub and_those : Option ℕ → List ℕ → List ℕ
and_those None os = os
and_those (Some o) os = o ∷ os

-- the offsets of the first entries of all block collections that these events begin
abbrev pub all_entries : List ℕ → List EventInText → List ℕ
all_entries t [] = []
all_entries t (e ∷ es) = and_those (entries_from t (e ∷ es)) (all_entries t es)

-- the column, if the offset is present
abbrev pub if_any : Option ℕ → ℕ → Option ℕ
if_any None column = None
if_any (Some o) column = Some column

-- the column of the entries of the block collection that begins at an index, from the columns for all block collections
abbrev pub column_at : List ℕ → List EventInText → List ℕ → ℕ → Option ℕ
column_at t es columns i = if_any (entries_from t (drop i es)) (get_or columns (length (all_entries t es) - length (all_entries t (drop i es))) 0)

-- an entry without `?`
abbrev pub is_unmarked : List ℕ → Option Entry → Bool
is_unmarked t None = false
is_unmarked t (Some entry) = not ((code t entry.start == 63) && is_white_or_end (code t (entry.start + 1)))

abbrev pub unmarked_at : List ℕ → List EventInText → ℕ → Bool
unmarked_at t es i = is_unmarked t (first_entry (drop i es))
