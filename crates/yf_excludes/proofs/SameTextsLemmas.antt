-- Paths with names that have equal texts are excluded alike, from wherever the texts are lent.
use Rattle.std.proofs.Common.{◌≡◌, ℕ, zero, suc, ◌+◌, ◌<◌, Bool, true, false, IsTrue, List, [], ◌∷◌, length, take, map, refl, sym, subst, ap, ◌∙◌}
use Rattle.std.specs.Prelude.{nat_lt}
use Rattle.yf_excludes.specs.declared.pattern.Pattern.{Pattern}
use Rattle.yf_excludes.specs.declared.pattern.Segment.{Segment}
use Rattle.yf_excludes.specs.declared.pattern.Segment.TheVariants.{AnyDepth, Name}
use Rattle.yf_excludes.specs.Atoms.{AtomTakes, atom_is_run}
use Rattle.yf_excludes.specs.Excluded.{NoneMatches, no_pattern, and_not, Excludes, by_this, by_later, IsExcluded}
use Rattle.yf_excludes.specs.Names.{texts}
use Rattle.yf_excludes.specs.Paths.{Lent, Matches, SegmentTakes, segment_is_run}
use Rattle.yf_excludes.specs.Spans.{Spans, no_piece, piece_takes_item, run_ends, run_takes_item}

data SameTexts : List Lent → List Lent → Type 0 where
  no_names : SameTexts [] []
  same_too : {m n : Lent} {ms ns : List Lent} → m.now ≡ n.now → SameTexts ms ns → SameTexts (m ∷ ms) (n ∷ ns)

same_texts : (ms ns : List Lent) → texts ms ≡ texts ns → SameTexts ms ns
same_texts [] [] e = no_names
same_texts [] (n ∷ ns) e = cc
same_texts (m ∷ ms) [] e = cc
same_texts (m ∷ ms) (n ∷ ns) e =
    let first : m.now ≡ n.now = cc in
    let rest : texts ms ≡ texts ns = cc in
    same_too first (same_texts ms ns rest)

swapped : {ms ns : List Lent} → SameTexts ms ns → SameTexts ns ms
swapped no_names = no_names
swapped (same_too e s) = same_too (sym e) (swapped s)

same_count : {ms ns : List Lent} → SameTexts ms ns → length ms ≡ length ns
same_count no_names = refl
same_count (same_too e s) = ap (λ n. suc n) (same_count s)

same_front : (k : ℕ) {ms ns : List Lent} → SameTexts ms ns → SameTexts (take k ms) (take k ns)
same_front zero s = no_names
same_front (suc k) no_names = no_names
same_front (suc k) (same_too e s) = same_too e (same_front k s)

takes_same : (s : Segment) (m n : Lent) → m.now ≡ n.now → SegmentTakes s m → SegmentTakes s n
takes_same AnyDepth m n e t = t
takes_same (Name atoms) m n e t = subst (λ x. Spans atom_is_run AtomTakes atoms.items x) e t

spans_same : {ss : List Segment} {ms ns : List Lent} → SameTexts ms ns → Spans segment_is_run SegmentTakes ss ms
    → Spans segment_is_run SegmentTakes ss ns
spans_same no_names s = s
spans_same (same_too {m = m} {n = n} e rest) (piece_takes_item {a = a} f t s) =
    piece_takes_item f (takes_same a m n e t) (spans_same rest s)
spans_same (same_too e rest) (run_ends t s) = run_ends t (spans_same (same_too e rest) s)
spans_same (same_too e rest) (run_takes_item t s) = run_takes_item t (spans_same rest s)

matches_same : {p : Pattern} {ms ns : List Lent} {f : Bool} → SameTexts ms ns → Matches p ms f → Matches p ns f
matches_same s m = record { kind = m.kind; names = spans_same s m.names }

none_same : {ms ns : List Lent} {f : Bool} {ps : List Pattern} → SameTexts ms ns → NoneMatches ms f ps
    → NoneMatches ns f ps
none_same s no_pattern = no_pattern
none_same s (and_not never rest) = and_not (λ m. never (matches_same (swapped s) m)) (none_same s rest)

excludes_same : {ms ns : List Lent} {f : Bool} {ps : List Pattern} → SameTexts ms ns → Excludes ms f ps
    → Excludes ns f ps
excludes_same s (by_this m e rest) = by_this (matches_same s m) e (none_same s rest)
excludes_same s (by_later rest) = by_later (excludes_same s rest)

pub excluded_alike : (patterns : List Pattern) (path other : List Lent) → texts path ≡ texts other
    → IsExcluded patterns path → IsExcluded patterns other
excluded_alike patterns path other same e =
    let s = same_texts path other same in
    let count : length path ≡ length other = same_count s in
    record {
      above = e.above;
      within = subst (λ n. e.above < n) count e.within;
      excluded = subst (λ n. Excludes (take (e.above + 1) other) (nat_lt (e.above + 1) n) patterns) count
          (excludes_same (same_front (e.above + 1) s) e.excluded);
    }
