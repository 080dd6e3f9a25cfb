-- The bytes that an atom takes.
use Rattle.std.specs.Prelude.{◌≡◌, ℕ, ◌≤◌, Bool, true, false, Any, MatchBool}
use Rattle.yf_excludes.specs.declared.atom.ByteRange.{ByteRange}
use Rattle.yf_excludes.specs.declared.atom.Class.{Class}
use Rattle.yf_excludes.specs.declared.atom.Atom.{Atom}
use Rattle.yf_excludes.specs.declared.atom.Atom.TheVariants.{Byte, AnyByte, AnyRun, OneOf}

-- a byte of the ranges, or if the class is negated any other
abbrev pub ClassTakes : Class → ℕ → Type 0
ClassTakes k c =
    MatchBool k.negated (¬ (Any (λ r. (r.first ≤ c) × (c ≤ r.last)) k.ranges.items))
    (Any (λ r. (r.first ≤ c) × (c ≤ r.last)) k.ranges.items)

-- `*` is a run
abbrev pub atom_is_run : Atom → Bool
atom_is_run AnyRun = true
atom_is_run (Byte _) = false
atom_is_run AnyByte = false
atom_is_run (OneOf _) = false

-- the bytes that an atom takes; a run takes none
abbrev pub AtomTakes : Atom → ℕ → Type 0
AtomTakes AnyRun c = ⊥
AtomTakes (Byte b) c = b ≡ c
AtomTakes AnyByte c = Unit {0}
AtomTakes (OneOf k) c = ClassTakes k c
