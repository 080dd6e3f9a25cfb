-- Atoms and segments have one end.
use Rattle.std.proofs.Common.{◌≡◌, ℕ, ◌+◌, ◌<◌, ◌≤◌, List, [], ◌∷◌, ◌++◌, length, Option, Some, None, position, take, drop, refl, sym, subst, ◌∙◌, ap, arith, append_assoc}
use Rattle.std.proofs.lemmas.List.{append-nil}
use Rattle.std.proofs.lemmas.Option.{same_Some}
use Rattle.yf_excludes.specs.declared.atom.Class.{Class}
use Rattle.yf_excludes.specs.declared.atom.Atom.{Atom}
use Rattle.yf_excludes.specs.declared.pattern.Segment.{Segment}
use Rattle.yf_excludes.specs.declared.pattern.Segment.TheVariants.{AnyDepth, Name}
use Rattle.yf_excludes.specs.Classes.{ClassAt, MembersAt}
use Rattle.yf_excludes.specs.Segments.{AtomAt, simple_atom, escaped_atom, class_atom, AtomsFrom, atoms_end, atoms_go_on, IsDeep, SegmentOf, any_depth, one_name, SegmentsOf, last_segment, everything_inside, more_segments, is_slash, Adds}
use Rattle.yf_excludes.proofs.ClassLemmas.{members_end}

pub class_end : {t : List ℕ} {i j h : ℕ} {k l : Class} → ClassAt t i k j → ClassAt t i l h → j ≡ h
class_end a b = members_end a.members b.members

pub atom_end : {t : List ℕ} {i j k : ℕ} {a b : Atom} → AtomAt t i a j → AtomAt t i b k → j ≡ k
atom_end (simple_atom _ _ _ _ e) (simple_atom _ _ _ _ f) = e ∙ sym f
atom_end (escaped_atom _ _ _ e) (escaped_atom _ _ _ f) = e ∙ sym f
atom_end (class_atom _ _ a _) (class_atom _ _ b _) = class_end a b
atom_end (simple_atom _ _ other _ _) (escaped_atom _ at _ _) = absurd (other at)
atom_end (escaped_atom _ at _ _) (simple_atom _ _ other _ _) = absurd (other at)
atom_end (simple_atom _ other _ _ _) (class_atom _ at _ _) = absurd (other at)
atom_end (class_atom _ at _ _) (simple_atom _ other _ _ _) = absurd (other at)
atom_end (escaped_atom _ at _ _) (class_atom _ is _ _) = absurd (omega arith)
atom_end (class_atom _ is _ _) (escaped_atom _ at _ _) = absurd (omega arith)

-- the rest of the segment from an offset on, if it can be read
pub record AtomsOn (t : List ℕ) (i : ℕ) : Type 0 where
  pub atoms : List Atom
  pub read : AtomsFrom t i atoms

-- the atoms read so far
pub record AtomsSoFar (t : List ℕ) (atoms : List Atom) (i : ℕ) : Type 0 where
  pub within : i ≤ length t
  pub forth : (more : List Atom) → AtomsFrom t i more → AtomsFrom t 0 (atoms ++ more)
  pub back : (all : List Atom) → AtomsFrom t 0 all → AtomsOn t i

pub atoms_begin : (t : List ℕ) → AtomsSoFar t [] 0
atoms_begin t = record { within = omega arith; forth = λ more m. m; back = λ all m. record { atoms = all; read = m } }

after_atom : {t : List ℕ} {i h : ℕ} {a : Atom} {all : List Atom} → AtomAt t i a h → i < length t → AtomsFrom t i all
    → AtomsOn t h
after_atom m below (atoms_end over) = absurd (omega arith)
after_atom {t} m below (atoms_go_on {rest = rest} n read) = record
    { atoms = rest; read = subst (λ z. AtomsFrom t z rest) (atom_end n m) read }

no_atom : {t : List ℕ} {i : ℕ} {all : List Atom} → ((a : Atom) (k : ℕ) → AtomAt t i a k → ⊥) → i < length t
    → AtomsFrom t i all → ⊥
no_atom none below (atoms_end over) = omega arith
no_atom none below (atoms_go_on {j = j} {a = a} n read) = none a j n

pub atoms_more : {t : List ℕ} {i h : ℕ} {a : Atom} {atoms after : List Atom}
    → AtomsSoFar t atoms i → i < length t → AtomAt t i a h → h ≤ length t → after ≡ atoms ++ a ∷ []
    → AtomsSoFar t after h
atoms_more {t} {i} {h} {a} {atoms} s below m end e = subst (λ z. AtomsSoFar t z h) (sym e) (record {
  within = end;
  forth = λ more rest. subst (λ z. AtomsFrom t 0 z) (sym (append_assoc atoms (a ∷ []) more))
      (s.forth (a ∷ more) (atoms_go_on m rest));
  back = λ all read. let on : AtomsOn t i = s.back all read in after_atom m below on.read;
})

pub atoms_done : {t : List ℕ} {i : ℕ} {atoms : List Atom} → AtomsSoFar t atoms i → length t ≤ i → AtomsFrom t 0 atoms
atoms_done {t} {i} {atoms} s over = subst (λ z. AtomsFrom t 0 z) (append-nil atoms) (s.forth [] (atoms_end over))

pub atoms_none : {t : List ℕ} {i : ℕ} {atoms : List Atom} → AtomsSoFar t atoms i → i < length t
    → ((a : Atom) (k : ℕ) → AtomAt t i a k → ⊥) → (all : List Atom) → AtomsFrom t 0 all → ⊥
atoms_none {t} {i} s below none all read = let on : AtomsOn t i = s.back all read in no_atom none below on.read

-- segments
pub record SegmentsOn (rest : List ℕ) : Type 0 where
  pub segments : List Segment
  pub read : SegmentsOf rest segments

pub record SegmentsSoFar (t : List ℕ) (segments : List Segment) (rest : List ℕ) : Type 0 where
  pub forth : (more : List Segment) → SegmentsOf rest more → SegmentsOf t (segments ++ more)
  pub back : (all : List Segment) → SegmentsOf t all → SegmentsOn rest

pub segments_begin : (t : List ℕ) → SegmentsSoFar t [] t
segments_begin t = record { forth = λ more m. m; back = λ all m. record { segments = all; read = m } }

after_segment : {t : List ℕ} {k : ℕ} {all : List Segment} → position is_slash t ≡ Some k → SegmentsOf t all
    → SegmentsOn (drop (k + 1) t)
after_segment at (last_segment none _ _) = absurd (let e = sym none ∙ at in cc)
after_segment at (everything_inside none _ _) = absurd (let e = sym none ∙ at in cc)
after_segment {t} at (more_segments {ss = ss} other _ read) =
    record { segments = ss; read = subst (λ z. SegmentsOf (drop (z + 1) t) ss) (same_Some _ _ (sym other ∙ at)) read }

no_segment : {t : List ℕ} {k : ℕ} {all : List Segment}
    → position is_slash t ≡ Some k → ((s : Segment) → SegmentOf (take k t) s → ⊥) → SegmentsOf t all → ⊥
no_segment at never (last_segment none _ _) = absurd (let e = sym none ∙ at in cc)
no_segment at never (everything_inside none _ _) = absurd (let e = sym none ∙ at in cc)
no_segment {t} at never (more_segments {s = s} other one _) = never s
    (subst (λ z. SegmentOf (take z t) s) (same_Some _ _ (sym other ∙ at)) one)

pub segments_more : {t rest part next : List ℕ} {k : ℕ} {s : Segment} {segments after : List Segment}
    → SegmentsSoFar t segments rest → Some k ≡ position is_slash rest → SegmentOf part s → part ≡ take k rest
    → next ≡ drop (k + 1) rest
    → after ≡ segments ++ s ∷ [] → SegmentsSoFar t after next
segments_more {t} {rest} {part} {next} {k} {s} {segments} {after} so found read here behind e =
    let at = sym found in
    let one : SegmentOf (take k rest) s = subst (λ z. SegmentOf z s) here read in
    subst (λ z. SegmentsSoFar t after z) (sym behind)
    (subst (λ z. SegmentsSoFar t z (drop (k + 1) rest)) (sym e) (record {
      forth = λ more read. subst (λ z. SegmentsOf t z) (sym (append_assoc segments (s ∷ []) more))
          (so.forth (s ∷ more) (more_segments at one read));
      back = λ all read. let on : SegmentsOn rest = so.back all read in after_segment at on.read;
    }))

pub segments_none : {t rest part : List ℕ} {k : ℕ} {segments : List Segment}
    → SegmentsSoFar t segments rest → Some k ≡ position is_slash rest → ((s : Segment) → SegmentOf part s → ⊥)
    → part ≡ take k rest
    → (all : List Segment) → SegmentsOf t all → ⊥
segments_none {rest = rest} {part} {k} so found never here all read =
    let on : SegmentsOn rest = so.back all read in
    no_segment (sym found) (λ s one. never s (subst (λ z. SegmentOf z s) (sym here) one)) on.read

pub segments_done : {t rest : List ℕ} {segments after : List Segment} → SegmentsSoFar t segments rest
    → Adds rest segments after → SegmentsOf t after
segments_done {t} so a = subst (λ z. SegmentsOf t z) (sym a.added) (so.forth a.own a.read)

pub segments_end : {t rest : List ℕ} {segments : List Segment} → SegmentsSoFar t segments rest
    → ((ss : List Segment) → SegmentsOf rest ss → ⊥)
    → (all : List Segment) → SegmentsOf t all → ⊥
segments_end {rest = rest} so never all read = let on : SegmentsOn rest = so.back all read in never on.segments on.read

-- the segments after the last slash
pub no_last : {t : List ℕ} {all : List Segment} → position is_slash t ≡ None → (IsDeep t → ⊥)
    → ((s : Segment) → SegmentOf t s → ⊥) → SegmentsOf t all → ⊥
no_last end deep never (last_segment {s = s} _ _ one) = never s one
no_last end deep never (everything_inside _ is _) = deep is
no_last end deep never (more_segments at _ _) = absurd (let e = sym end ∙ at in cc)
