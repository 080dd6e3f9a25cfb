-- How the text of a segment, and that of a whole pattern, is read.
use Rattle.std.specs.Prelude.{◌≡◌, ◌≢◌, ℕ, ◌+◌, ◌-◌, ◌<◌, ◌≤◌, Bool, ◌==◌, ◌&&◌, nat_lt, if◌then◌else◌, List, [], ◌∷◌, ◌++◌, length, take, drop, slice_index, position, Option, Some, None, is_some, All}
use Rattle.std.specs.Prelude.{Vec}
use Rattle.std.specs.declared.alloc.Global.{Global}
use Rattle.yf_excludes.specs.Signs.{EXCLAMATION, STAR, SLASH, QUESTION, LEFT_BRACKET, BACKSLASH}
use Rattle.yf_excludes.specs.declared.atom.Class.{Class}
use Rattle.yf_excludes.specs.declared.atom.Atom.{Atom}
use Rattle.yf_excludes.specs.declared.atom.Atom.TheVariants.{Byte, AnyByte, AnyRun, OneOf}
use Rattle.yf_excludes.specs.declared.pattern.Segment.{Segment}
use Rattle.yf_excludes.specs.declared.pattern.Segment.TheVariants.{AnyDepth, Name}
use Rattle.yf_excludes.specs.declared.pattern.Pattern.{Pattern}
use Rattle.yf_excludes.specs.Classes.{ClassAt}

-- the atom of one byte that begins no class and no escape
abbrev pub atom_of : ℕ → Atom
atom_of c = if c == STAR then AnyRun else (if c == QUESTION then AnyByte else Byte c)

-- an atom, from one offset to another
pub data AtomAt (t : List ℕ) (i : ℕ) (a : Atom) (j : ℕ) : Type 0 where
  simple_atom : i < length t → slice_index t i ≢ LEFT_BRACKET → slice_index t i ≢ BACKSLASH
      → a ≡ atom_of (slice_index t i)
      → j ≡ i + 1 → AtomAt t i a j
  escaped_atom : i + 1 < length t → slice_index t i ≡ BACKSLASH → a ≡ Byte (slice_index t (i + 1)) → j ≡ i + 2
      → AtomAt t i a j
  class_atom : {k : Class} → i < length t → slice_index t i ≡ LEFT_BRACKET → ClassAt t (i + 1) k j → a ≡ OneOf k
      → AtomAt t i a j

-- the atoms from an offset to the end of the text
pub data AtomsFrom (t : List ℕ) : ℕ → List Atom → Type 0 where
  atoms_end : {i : ℕ} → length t ≤ i → AtomsFrom t i []
  atoms_go_on : {i j : ℕ} {a : Atom} {rest : List Atom} → AtomAt t i a j → AtomsFrom t j rest → AtomsFrom t i (a ∷ rest)

-- `**`: two stars or more, and nothing else
pub record IsDeep (t : List ℕ) : Type 0 where
  pub two : 2 ≤ length t
  pub stars : All (λ c. c ≡ STAR) t

-- a segment that another one follows
pub data SegmentOf (t : List ℕ) (s : Segment) : Type 0 where
  any_depth : IsDeep t → s ≡ AnyDepth → SegmentOf t s
  one_name : {v : Vec Atom Global} → ¬ (IsDeep t) → AtomsFrom t 0 v.items → s ≡ Name v → SegmentOf t s

abbrev pub is_slash : ℕ → Bool
is_slash c = c == SLASH

-- the segments of a text: its parts between slashes. `**` at the end matches everything inside: any number of folders,
-- and a name
pub data SegmentsOf : List ℕ → List Segment → Type 0 where
  last_segment : {t : List ℕ} {s : Segment} → position is_slash t ≡ None → ¬ (IsDeep t) → SegmentOf t s
      → SegmentsOf t (s ∷ [])
  everything_inside : {t : List ℕ} {v : Vec Atom Global} → position is_slash t ≡ None → IsDeep t → v.items ≡ AnyRun ∷ []
      → SegmentsOf t (AnyDepth ∷ Name v ∷ [])
  more_segments : {t : List ℕ} {k : ℕ} {s : Segment} {ss : List Segment} → position is_slash t ≡ Some k
      → SegmentOf (take k t) s
      → SegmentsOf (drop (k + 1) t) ss → SegmentsOf t (s ∷ ss)

-- whether a text begins, or ends, with a byte
abbrev pub begins : ℕ → List ℕ → Bool
begins c t = nat_lt 0 (length t) && (slice_index t 0 == c)

abbrev pub ends : ℕ → List ℕ → Bool
ends c t = nat_lt 0 (length t) && (slice_index t (length t - 1) == c)

-- a text without this byte at its beginning, or at its end
abbrev pub without_first : ℕ → List ℕ → List ℕ
without_first c t = if begins c t then drop 1 t else t

abbrev pub without_last : ℕ → List ℕ → List ℕ
without_last c t = if ends c t then take (length t - 1) t else t

-- a pattern: `!`, a slash that anchors it, its segments, and a slash for folders. A pattern with no slash, except at
-- its end, matches at any depth
pub record PatternOf (t : List ℕ) (p : Pattern) : Type 0 where
  pub negated : p.negated ≡ begins EXCLAMATION t
  pub folders_only : p.folders_only ≡ ends SLASH (without_first EXCLAMATION t)
  pub own : List Segment
  pub read : SegmentsOf (without_first SLASH (without_last SLASH (without_first EXCLAMATION t))) own
  pub segments : p.segments.items
      ≡ (if is_some (position is_slash (without_last SLASH (without_first EXCLAMATION t))) then own else AnyDepth ∷ own)

-- the segments that are added to a list of segments
pub record Adds (t : List ℕ) (old new : List Segment) : Type 0 where
  pub own : List Segment
  pub read : SegmentsOf t own
  pub added : new ≡ old ++ own
