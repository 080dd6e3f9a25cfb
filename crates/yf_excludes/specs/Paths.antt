-- The paths that a pattern matches. A path is the list of its names.
use Rattle.std.specs.Prelude.{ℕ, Bool, true, false, List, IsTrue}
use Rattle.std.specs.Borrow.{Bor}
use Rattle.yf_excludes.specs.declared.pattern.Segment.{Segment}
use Rattle.yf_excludes.specs.declared.pattern.Segment.TheVariants.{AnyDepth, Name}
use Rattle.yf_excludes.specs.declared.pattern.Pattern.{Pattern}
use Rattle.yf_excludes.specs.Spans.{Spans}
use Rattle.yf_excludes.specs.Atoms.{AtomTakes, atom_is_run}

-- a name, as it is lent
abbrev pub Lent : Type 0
Lent = Bor (List ℕ)

-- `**` is a run of names
abbrev pub segment_is_run : Segment → Bool
segment_is_run AnyDepth = true
segment_is_run (Name _) = false

-- the atoms of a segment take the bytes of a name
abbrev pub SegmentTakes : Segment → Lent → Type 0
SegmentTakes AnyDepth n = ⊥
SegmentTakes (Name atoms) n = Spans atom_is_run AtomTakes atoms.items n.now

-- the segments take the names; a pattern for folders matches no file
pub record Matches (p : Pattern) (path : List Lent) (is_folder : Bool) : Type 0 where
  pub kind : IsTrue p.folders_only → IsTrue is_folder
  pub names : Spans segment_is_run SegmentTakes p.segments.items path
