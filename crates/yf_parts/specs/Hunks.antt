-- The hunks between a text and its formatting, and the text with some of them applied.
use Rattle.std.specs.Prelude.{◌≡◌, ℕ, ◌+◌, ◌≤◌, Bool, List, [], ◌∷◌, ◌++◌, length, drop, slice_range, Option, None}
use Rattle.std.specs.Prelude.{Some, if◌then◌else◌}
use Rattle.std.specs.List.{concat}
use Rattle.yf_diff.specs.Script.{Edit, is_change, new_part, old_part}
use Rattle.yf_parts.specs.declared.hunks.Edge.{Edge}
use Rattle.yf_parts.specs.declared.hunks.Hunk.{Hunk}

-- the start of both texts
abbrev pub origin : Edge
origin = record { lines = 0; offset = 0; formatted = 0 }

-- the edge after these lines of the text and those of the formatting
abbrev pub moved : Edge → List (List ℕ) → List (List ℕ) → Edge
moved edge old new = record {
  lines = edge.lines + length old;
  offset = edge.offset + length (concat old);
  formatted = edge.formatted + length (concat new);
}

-- From an edge on, the lines of the text and those of its formatting are equal except for the hunks, which are in
-- order: the lines before each hunk are equal, and in the hunk the formatting's lines replace the text's.
pub data Differ : List Hunk → Edge → List (List ℕ) → List (List ℕ) → Type 0 where
  alike : {at : Edge} {rest : List (List ℕ)} → Differ [] at rest rest
  differ : {h : Hunk} {hunks : List Hunk} {at : Edge} (same gone came : List (List ℕ)) {old new : List (List ℕ)}
      → h.start ≡ moved at same same → h.end ≡ moved h.start gone came → Differ hunks h.end old new
      → Differ (h ∷ hunks) at (same ++ (gone ++ old)) (same ++ (came ++ new))

-- the lines in a hunk: those of the formatting if it is applied, and otherwise those of the text
abbrev pub choice : List ℕ → List ℕ → Hunk → Bool → List ℕ
choice t u h applied = if applied then slice_range u h.start.formatted h.end.formatted
    else slice_range t h.start.offset h.end.offset

-- the text t from an offset on, with the hunks applied that have their flags set; all other bytes are those of t
abbrev pub spliced : List ℕ → List ℕ → List Hunk → List Bool → ℕ → List ℕ
spliced t u [] flags i = drop i t
spliced t u (h ∷ hunks) [] i = drop i t
spliced t u (h ∷ hunks) (flag ∷ flags) i =
    (slice_range t i h.start.offset ++ choice t u h flag) ++ spliced t u hunks flags h.end.offset

-- a hunk is after the offset, and within texts of n and m bytes
pub record HunkFits (n m i : ℕ) (h : Hunk) : Type 0 where
  pub start : i ≤ h.start.offset
  pub end : h.start.offset ≤ h.end.offset
  pub bound : h.end.offset ≤ n
  pub formatted : h.start.formatted ≤ h.end.formatted
  pub within : h.end.formatted ≤ m

-- and so are all, in order
abbrev pub Fits : ℕ → ℕ → ℕ → List Hunk → Type 0
Fits n m i [] = i ≤ n
Fits n m i (h ∷ hunks) = HunkFits n m i h × Fits n m h.end.offset hunks

-- The hunks of an edit script: its runs of changes.

-- the edge after an edit
abbrev pub after : Edge → Edit → Edge
after edge x = moved edge (old_part x) (new_part x)

-- the start of the hunk that contains an edit, if the edit is a change
abbrev pub opened : Option Edge → Edge → Edit → Option Edge
opened (Some start) now x = if is_change x then Some start else None
opened None now x = if is_change x then Some now else None

-- the hunk that ends here, if one has begun
abbrev pub closed : Option Edge → Edge → List Hunk
closed (Some start) now = record { start = start; end = now } ∷ []
closed None now = []

-- the hunk that ends before an edit
abbrev pub ended : Option Edge → Edge → Edit → List Hunk
ended begun now x = if is_change x then [] else closed begun now

abbrev pub hunks_of : Option Edge → Edge → List Edit → List Hunk
hunks_of begun now [] = closed begun now
hunks_of begun now (x ∷ rest) = ended begun now x ++ hunks_of (opened begun now x) (after now x) rest
