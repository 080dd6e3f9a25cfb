-- However a text is read as a pattern, it means one thing.
use Rattle.std.proofs.Common.{◌≡◌, ℕ, ◌+◌, ◌<◌, ◌≤◌, length, Bool, true, false, List, [], ◌∷◌, Option, Some, None, position, take, drop, is_some, if◌then◌else◌, Any, MatchBool, refl, sym, subst, ap, ◌∙◌, arith}
use Rattle.std.proofs.lemmas.Option.{same_Some}
use Rattle.yf_excludes.specs.declared.atom.ByteRange.{ByteRange}
use Rattle.yf_excludes.specs.declared.atom.Class.{Class}
use Rattle.yf_excludes.specs.declared.atom.Atom.{Atom}
use Rattle.yf_excludes.specs.declared.atom.Atom.TheVariants.{Byte, AnyByte, AnyRun, OneOf}
use Rattle.yf_excludes.specs.declared.pattern.Segment.{Segment}
use Rattle.yf_excludes.specs.declared.pattern.Segment.TheVariants.{AnyDepth, Name}
use Rattle.yf_excludes.specs.declared.pattern.Pattern.{Pattern}
use Rattle.yf_excludes.specs.Signs.{SLASH, EXCLAMATION}
use Rattle.yf_excludes.specs.Spans.{Spans, no_piece, piece_takes_item, run_ends, run_takes_item}
use Rattle.yf_excludes.specs.Atoms.{AtomTakes, ClassTakes, atom_is_run}
use Rattle.yf_excludes.specs.Paths.{Lent, Matches, SegmentTakes, segment_is_run}
use Rattle.yf_excludes.specs.Classes.{ClassByte, plain_byte, escaped_byte, IsRangeSign, MemberAt, one_byte, byte_range, MembersAt, class_ends, class_goes_on, ClassAt}
use Rattle.yf_excludes.specs.Segments.{AtomAt, simple_atom, escaped_atom, class_atom, AtomsFrom, atoms_end, atoms_go_on, IsDeep, SegmentOf, any_depth, one_name, SegmentsOf, last_segment, everything_inside, more_segments, is_slash, PatternOf, without_first, without_last}
use Rattle.yf_excludes.specs.OneMeaning.{MeansAlike}
use Rattle.yf_excludes.proofs.ClassLemmas.{byte_end, member_end}
use Rattle.yf_excludes.proofs.SegmentLemmas.{atom_end}

-- two pieces are runs or none, and the second takes what the first takes
record Alike {A B : Type 0} (is_run : A → Bool) (Takes : A → B → Type 0) (a b : A) : Type 0 where
  runs : is_run a ≡ is_run b
  takes : (x : B) → Takes a x → Takes b x

data EachAlike {A B : Type 0} (is_run : A → Bool) (Takes : A → B → Type 0) : List A → List A → Type 0 where
  all_alike : EachAlike is_run Takes [] []
  alike_too : {a b : A} {ps qs : List A} → Alike is_run Takes a b → EachAlike is_run Takes ps qs
      → EachAlike is_run Takes (a ∷ ps) (b ∷ qs)

spans_alike : {A B : Type 0} {is_run : A → Bool} {Takes : A → B → Type 0} {ps qs : List A} {xs : List B}
    → EachAlike is_run Takes ps qs → Spans is_run Takes ps xs → Spans is_run Takes qs xs
spans_alike all_alike s = s
spans_alike (alike_too e rest) (piece_takes_item {b = x} f takes s) = piece_takes_item (sym e.runs ∙ f)
    (e.takes x takes) (spans_alike rest s)
spans_alike (alike_too e rest) (run_ends t s) = run_ends (sym e.runs ∙ t) (spans_alike rest s)
spans_alike (alike_too e rest) (run_takes_item t s) = run_takes_item (sym e.runs ∙ t) (spans_alike (alike_too e rest) s)

-- classes
byte_same : {t : List ℕ} {i b c j k : ℕ} → ClassByte t i b j → ClassByte t i c k → b ≡ c
byte_same (plain_byte _ is _ _ _) (plain_byte _ at _ _ _) = sym is ∙ at
byte_same (escaped_byte _ _ is _) (escaped_byte _ _ at _) = sym is ∙ at
byte_same (plain_byte _ is other _ _) (escaped_byte _ at _ _) = absurd (other (sym is ∙ at))
byte_same (escaped_byte _ at _ _) (plain_byte _ is other _ _) = absurd (other (sym is ∙ at))

range_same : (r s : ByteRange) → r.first ≡ s.first → r.last ≡ s.last → r ≡ s
range_same r s e f =
    let one : ℕ → ByteRange = λ z. record { first = z; last = r.last } in
    let other : ℕ → ByteRange = λ z. record { first = s.first; last = z } in
    ap one e ∙ ap other f

member_same : {t : List ℕ} {i j k : ℕ} {r s : ByteRange} → MemberAt t i r j → MemberAt t i s k → r ≡ s
member_same {r = r} {s = s} (one_byte a _ e) (one_byte b _ f) = range_same r s (byte_same a b)
    (e ∙ byte_same a b ∙ sym f)
member_same {t} (one_byte a never _) (byte_range b does _) = absurd
    (never (subst (λ z. IsRangeSign t z) (sym (byte_end a b)) does))
member_same {t} (byte_range b does _) (one_byte a never _) = absurd
    (never (subst (λ z. IsRangeSign t z) (byte_end b a) does))
member_same {t} {k = k} {r = r} {s = s} (byte_range {h} a _ c) (byte_range {h = g} b _ d) =
    range_same r s (byte_same a b) (byte_same c (subst (λ z. ClassByte t (z + 1) s.last k) (sym (byte_end a b)) d))

members_same : {t : List ℕ} {start i j k : ℕ} {rs ss : List ByteRange} → MembersAt t start i rs j
    → MembersAt t start i ss k → rs ≡ ss
members_same (class_ends _ _) (class_ends _ _) = refl
members_same (class_ends does _) (class_goes_on never _ _) = absurd (never does)
members_same (class_goes_on never _ _) (class_ends does _) = absurd (never does)
members_same {t} {start} {k = k} (class_goes_on {r = r} {rs = rs} _ a rest)
    (class_goes_on {r = s} {rs = ss} _ b other) =
    let tails : rs ≡ ss = members_same rest (subst (λ z. MembersAt t start z ss k) (sym (member_end a b)) other) in
    ap (λ z. z ∷ rs) (member_same a b) ∙ ap (λ z. s ∷ z) tails

class_like : (m n : Bool) (rs ss : List ByteRange) (c : ℕ) → m ≡ n → rs ≡ ss
    → MatchBool m (¬ (Any (λ r. (r.first ≤ c) × (c ≤ r.last)) rs)) (Any (λ r. (r.first ≤ c) × (c ≤ r.last)) rs)
    → MatchBool n (¬ (Any (λ r. (r.first ≤ c) × (c ≤ r.last)) ss)) (Any (λ r. (r.first ≤ c) × (c ≤ r.last)) ss)
class_like m n rs ss c e f takes =
    let Listed : List ByteRange → Type 0 = λ z. Any (λ r. (r.first ≤ c) × (c ≤ r.last)) z in
    subst (λ z. MatchBool z (¬ (Listed ss)) (Listed ss)) e (subst (λ z. MatchBool m (¬ (Listed z)) (Listed z)) f takes)

class_takes : {t : List ℕ} {i j h : ℕ} {k l : Class} → ClassAt t i k j → ClassAt t i l h → (c : ℕ) → ClassTakes k c
    → ClassTakes l c
class_takes {k = k} {l = l} a b c takes =
    let ranges : k.ranges.items ≡ l.ranges.items = members_same a.members b.members in
    let negated : k.negated ≡ l.negated = a.negated ∙ sym b.negated in
    class_like k.negated l.negated k.ranges.items l.ranges.items c negated ranges takes

-- atoms
same_atom : {a b : Atom} → a ≡ b → Alike atom_is_run AtomTakes a b
same_atom {a} {b} e = record { runs = ap atom_is_run e; takes = λ x. subst (λ z. AtomTakes z x) e }

classes_alike : {a b : Atom} {k l : Class} → a ≡ OneOf k → b ≡ OneOf l → ((c : ℕ) → ClassTakes k c → ClassTakes l c)
    → Alike atom_is_run AtomTakes a b
classes_alike {a} {b} {k} {l} e f same = record {
  runs = ap atom_is_run e ∙ sym (ap atom_is_run f);
  takes = λ x takes. subst (λ z. AtomTakes z x) (sym f) (same x (subst (λ z. AtomTakes z x) e takes));
}

atom_same : {t : List ℕ} {i j k : ℕ} {a b : Atom} → AtomAt t i a j → AtomAt t i b k → Alike atom_is_run AtomTakes a b
atom_same (simple_atom _ _ _ e _) (simple_atom _ _ _ f _) = same_atom (e ∙ sym f)
atom_same (escaped_atom _ _ e _) (escaped_atom _ _ f _) = same_atom (e ∙ sym f)
atom_same (class_atom _ _ a e) (class_atom _ _ b f) = classes_alike e f (class_takes a b)
atom_same (simple_atom _ _ other _ _) (escaped_atom _ at _ _) = absurd (other at)
atom_same (escaped_atom _ at _ _) (simple_atom _ _ other _ _) = absurd (other at)
atom_same (simple_atom _ other _ _ _) (class_atom _ at _ _) = absurd (other at)
atom_same (class_atom _ at _ _) (simple_atom _ other _ _ _) = absurd (other at)
atom_same (escaped_atom _ at _ _) (class_atom _ is _ _) = absurd (omega arith)
atom_same (class_atom _ is _ _) (escaped_atom _ at _ _) = absurd (omega arith)

no_atom_after : {t : List ℕ} {i j : ℕ} {a : Atom} → length t ≤ i → AtomAt t i a j → ⊥
no_atom_after over (simple_atom below _ _ _ _) = omega arith
no_atom_after over (escaped_atom below _ _ _) = omega arith
no_atom_after over (class_atom below _ _ _) = omega arith

atoms_same : {t : List ℕ} {i : ℕ} {xs ys : List Atom} → AtomsFrom t i xs → AtomsFrom t i ys
    → EachAlike atom_is_run AtomTakes xs ys
atoms_same (atoms_end _) (atoms_end _) = all_alike
atoms_same (atoms_end over) (atoms_go_on a _) = absurd (no_atom_after over a)
atoms_same (atoms_go_on a _) (atoms_end over) = absurd (no_atom_after over a)
atoms_same {t} (atoms_go_on a more) (atoms_go_on {rest = ys} b other) =
    alike_too (atom_same a b) (atoms_same more (subst (λ z. AtomsFrom t z ys) (sym (atom_end a b)) other))

-- segments
segment_same : {t : List ℕ} {s u : Segment} → SegmentOf t s → SegmentOf t u → Alike segment_is_run SegmentTakes s u
segment_same (any_depth _ e) (any_depth _ f) = record
    { runs = ap segment_is_run (e ∙ sym f); takes = λ x. subst (λ z. SegmentTakes z x) (e ∙ sym f) }
segment_same (any_depth deep _) (one_name never _ _) = absurd (never deep)
segment_same (one_name never _ _) (any_depth deep _) = absurd (never deep)
segment_same (one_name {v} _ a e) (one_name {v = w} _ b f) = record {
  runs = ap segment_is_run e ∙ sym (ap segment_is_run f);
  takes = λ x takes. subst (λ z. SegmentTakes z x) (sym f)
      (spans_alike (atoms_same a b) (subst (λ z. SegmentTakes z x) e takes));
}

itself : (s : Segment) → Alike segment_is_run SegmentTakes s s
itself s = record { runs = refl; takes = λ x takes. takes }

segments_same : {t : List ℕ} {ss us : List Segment} → SegmentsOf t ss → SegmentsOf t us
    → EachAlike segment_is_run SegmentTakes ss us
segments_same (last_segment _ _ a) (last_segment _ _ b) = alike_too (segment_same a b) all_alike
segments_same (last_segment _ never _) (everything_inside _ deep _) = absurd (never deep)
segments_same (everything_inside _ deep _) (last_segment _ never _) = absurd (never deep)
segments_same (everything_inside {v} _ _ e) (everything_inside {v = w} _ _ f) =
    alike_too (itself AnyDepth) (alike_too (record {
      runs = refl;
      takes = λ x takes. subst (λ z. Spans atom_is_run AtomTakes z x.now) (e ∙ sym f) takes;
    }) all_alike)
segments_same (last_segment none _ _) (more_segments at _ _) = absurd (let e = sym none ∙ at in cc)
segments_same (more_segments at _ _) (last_segment none _ _) = absurd (let e = sym none ∙ at in cc)
segments_same (everything_inside none _ _) (more_segments at _ _) = absurd (let e = sym none ∙ at in cc)
segments_same (more_segments at _ _) (everything_inside none _ _) = absurd (let e = sym none ∙ at in cc)
segments_same {t} (more_segments at a more) (more_segments {s = u} {ss = us} is b other) =
    let same = same_Some _ _ (sym is ∙ at) in
    alike_too (segment_same a (subst (λ z. SegmentOf (take z t) u) same b))
    (segments_same more (subst (λ z. SegmentsOf (drop (z + 1) t) us) same other))

placed_alike : (anchored : Bool) {ss us : List Segment} → EachAlike segment_is_run SegmentTakes ss us
    → EachAlike segment_is_run SegmentTakes (if anchored then ss else AnyDepth ∷ ss)
    (if anchored then us else AnyDepth ∷ us)
placed_alike true e = e
placed_alike false e = alike_too (itself AnyDepth) e

pub one_meaning : (t : List ℕ) (p q : Pattern) → PatternOf t p → PatternOf t q → MeansAlike p q
one_meaning t p q a b =
    let anchored : Bool = is_some (position is_slash (without_last SLASH (without_first EXCLAMATION t))) in
    let alike : EachAlike segment_is_run SegmentTakes p.segments.items q.segments.items =
    subst (λ z. EachAlike segment_is_run SegmentTakes z q.segments.items) (sym a.segments)
    (subst (λ z. EachAlike segment_is_run SegmentTakes (if anchored then a.own else AnyDepth ∷ a.own) z)
    (sym b.segments)
    (placed_alike anchored (segments_same a.read b.read))) in
    let folders : p.folders_only ≡ q.folders_only = a.folders_only ∙ sym b.folders_only in
    record {
      negated = a.negated ∙ sym b.negated;
      matches = λ path f m. record { kind = λ only. m.kind (folders ∙ only); names = spans_alike alike m.names };
    }
