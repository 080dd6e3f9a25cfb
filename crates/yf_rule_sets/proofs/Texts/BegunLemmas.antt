-- Laws of the number of lines that begin at an offset or before it.
use Rattle.std.proofs.Common.{◌≡◌, ℕ, ◌-◌, ◌<◌, ◌≤◌, List, Some, length, ap, arith}
use Rattle.std.specs.Prelude.{slice_get}
use Rattle.std.proofs.lemmas.Option.{slice_get_within, slice_get-get_or, get_or_from_slice_get}
use Rattle.yf_lines.specs.declared.line.Line.{Line}
use Rattle.yf_lines.specs.Lines.{AreLines, LinesBegunAt}
use Rattle.yf_lines.proofs.TableLemmas.{starts_ascend}
use Rattle.yf_rule_sets.specs.RuleSets.Scalars.{BegunTo}

pub starts_order : (t : List ℕ) (ls : List Line) (i j : ℕ) (a b : Line) → AreLines t ls → slice_get ls i ≡ Some a → slice_get ls j ≡ Some b → i ≤ j → a.start ≤ b.start
starts_order t ls i j a b h e f l =
    let n = slice_get_within ls j b f in
    let u = starts_ascend t ls h i j a l n in
    let p = ap (λ (w : Line). w.start) (get_or_from_slice_get ls i a a e) in
    let q = ap (λ (w : Line). w.start) (get_or_from_slice_get ls j b a f) in
    omega (arith, u, p, q)

-- the last of the lines before k begins at the offset or before it, and so do all others
all_before : (t : List ℕ) (ls : List Line) (offset k m : ℕ) (l : Line) → AreLines t ls → BegunTo ls offset k → slice_get ls m ≡ Some l → m < k → l.start ≤ offset
all_before t ls offset k m l a b e h =
    let n : k - 1 < length ls = let w = b.within in omega (arith, w, h) in
    let f = slice_get-get_or ls (k - 1) l n in
    let p = b.last (k - 1) _ f (omega (arith, h)) in
    let q = starts_order t ls m (k - 1) l _ a e f (omega (arith, h)) in
    omega (arith, p, q)

pub begun_at : (t : List ℕ) (ls : List Line) (offset k : ℕ) (n : Line) → AreLines t ls → BegunTo ls offset k → slice_get ls k ≡ Some n → offset < n.start → LinesBegunAt ls offset k
begun_at t ls offset k n a b e h = record {
  before = λ m l f w. all_before t ls offset k m l a b f w;
  follows = λ m l f w. let q = starts_order t ls k m n l a e f w in omega (arith, q, h);
}

pub begun_all : (t : List ℕ) (ls : List Line) (offset k : ℕ) → AreLines t ls → BegunTo ls offset k → length ls ≤ k → LinesBegunAt ls offset k
begun_all t ls offset k a b h = record {
  before = λ m l f w. all_before t ls offset k m l a b f w;
  follows = λ m l f w. absurd (let n = slice_get_within ls m l f in omega (arith, n, w, h));
}

-- two such numbers are equal, or both are past the last line
pub begun_same : (ls : List Line) (offset j k : ℕ) (l : Line) (m : ℕ) → LinesBegunAt ls offset j → LinesBegunAt ls offset k → slice_get ls m ≡ Some l → j ≤ m → j < k → ⊥
begun_same ls offset j k l m a b e w h =
    let n = slice_get_within ls m l e in
    let f = slice_get-get_or ls j l (omega (arith, n, w)) in
    let p = a.follows j _ f (omega arith) in
    let q = b.before j _ f h in
    omega (arith, p, q)
