-- Laws of the list of a text's lines: the line at an index, and the order of the lines.
use Rattle.std.proofs.Common.{◌≡◌, ℕ, zero, suc, ◌+◌, ◌<◌, ◌≤◌, List, [], ◌∷◌, ◌++◌, length, Some, refl, sym, ap, subst, inl, inr, ◌⊎◌, ⊎_elim, arith, get_or}
use Rattle.std.proofs.lemmas.Bool.{cases_lt}
use Rattle.std.proofs.lemmas.Option.{same_Some, slice_get-get_or}
use Rattle.std.proofs.lemmas.Str.{IsCharBoundary-start}
use Rattle.std.specs.List.{slice_get}
use Rattle.std.specs.List.Sorted.{IsNonDecreasingBy}
use Rattle.std.specs.Str.{IsUtf8, IsCharBoundary}
use Rattle.yf_chars.specs.Chain.{Chain}
use Rattle.yf_chars.specs.Chain.Chain.{done, step}
use Rattle.yf_chars.proofs.Tests.{no_item}
use Rattle.yf_lines.specs.declared.line.Line.{Line}
use Rattle.yf_lines.specs.Basic.{LineStart}
use Rattle.yf_lines.specs.Basic.LineStart.{at_text, after_break}
use Rattle.yf_lines.specs.Lines.LineEnd.{at_break, at_end}
use Rattle.yf_lines.specs.Lines.{LineEnd, IsLine, IsCutAt, OneLine, AreLines}
use Rattle.yf_lines.proofs.LineLemmas.{Made, line_made, line_cut, end_within}

-- lines that follow one another from i to j
abbrev pub Follow : List ℕ → ℕ → ℕ → List Line → Type 0
Follow t i j [] = i ≡ j
Follow t i j (l ∷ ls) = (l.start ≡ i) × IsLine t l × Follow t l.next j ls

follow_step : {t : List ℕ} {i h : ℕ} {x : List Line} (j : ℕ) (y : List Line) → Made t i h x → Follow t h j y → Follow t i j (x ++ y)
follow_step {t} {i} {h} j y m f =
    subst (λ w. Follow t i j (w ++ y)) (sym m.is) (m.start, m.made, subst (λ k. Follow t k j y) (sym m.next) f)

pub follow : {t : List ℕ} {i j : ℕ} {ls : List Line} → Chain (OneLine t) i j ls → Follow t i j ls
follow done = refl
follow {j = j} (step {y = y} s c) = follow_step j y (line_made s) (follow c)

follow_order : (t : List ℕ) (ls : List Line) (i j : ℕ) → Follow t i j ls → i ≤ j
follow_order t [] i j f = omega arith
follow_order t (l ∷ ls) i j f = let r = follow_order t ls l.next j f.2 in let o = f.1.order in omega (arith, f.0)

-- the line at an index
pub record LineAt (t : List ℕ) (i j : ℕ) (ls : List Line) (k : ℕ) (l : Line) : Type 0 where
  pub made : IsLine t l
  pub from : i ≤ l.start
  pub to : l.next ≤ j
  pub first : k ≡ 0 → l.start ≡ i
  pub last : k + 1 ≡ length ls → l.next ≡ j

last_end : (t : List ℕ) (ls : List Line) (i j : ℕ) → Follow t i j ls → length ls ≡ 0 → i ≡ j
last_end t [] i j f e = f
last_end t (l ∷ ls) i j f e = absurd (omega (arith, e))

pub line_at : (t : List ℕ) (ls : List Line) (i j k : ℕ) (l : Line) → Follow t i j ls → slice_get ls k ≡ Some l → LineAt t i j ls k l
line_at t [] i j k l f e = absurd (no_item k l e)
line_at t (m ∷ ls) i j zero l f e =
    let q : m ≡ l = same_Some _ _ e in
    subst (λ w. LineAt t i j (m ∷ ls) 0 w) q (record {
      made = f.1;
      from = omega (arith, f.0);
      to = follow_order t ls m.next j f.2;
      first = λ _. f.0;
      last = λ h. last_end t ls m.next j f.2 (omega arith);
    })
line_at t (m ∷ ls) i j (suc k) l f e =
    let r : LineAt t m.next j ls k l = line_at t ls m.next j k l f.2 e in
    let o = f.1.order in
    record {
      made = r.made;
      from = omega (arith, f.0, r.from);
      to = r.to;
      first = λ h. absurd (omega arith);
      last = λ h. r.last (omega arith);
    }

-- an earlier line ends before a later one begins, or at its start if the two are neighbours
pub line_before : (t : List ℕ) (ls : List Line) (i j k m : ℕ) (a b : Line) → Follow t i j ls → slice_get ls k ≡ Some a → slice_get ls m ≡ Some b
    → k < m → (a.next ≤ b.start) × (k + 1 ≡ m → a.next ≡ b.start)
line_before t [] i j k m a b f e g l = absurd (no_item k a e)
line_before t (c ∷ ls) i j k zero a b f e g l = absurd (omega arith)
line_before t (c ∷ ls) i j zero (suc m) a b f e g l =
    let r : LineAt t c.next j ls m b = line_at t ls c.next j m b f.2 g in
    let q : c ≡ a = same_Some _ _ e in
    let n : c.next ≡ a.next = ap (λ w. w.next) q in
    (omega (arith, r.from), λ h. let s = r.first (omega arith) in omega arith)
line_before t (c ∷ ls) i j (suc k) (suc m) a b f e g l =
    let r = line_before t ls c.next j k m a b f.2 e g (omega arith) in (r.0, λ h. r.1 (omega arith))

-- the starts of the lines ascend
pub starts_ascend : (t : List ℕ) (ls : List Line) → AreLines t ls → IsNonDecreasingBy (λ l. l.start) ls
starts_ascend t ls a k m d o w =
    let e : slice_get ls k ≡ Some (get_or ls k d) = slice_get-get_or ls k d (omega arith) in
    let g : slice_get ls m ≡ Some (get_or ls m d) = slice_get-get_or ls m d w in
    ⊎_elim
    (λ (l : k < m).
    let b = line_before t ls 0 (length t) k m (get_or ls k d) (get_or ls m d) (follow a) e g l in
    let r = line_at t ls 0 (length t) k (get_or ls k d) (follow a) e in
    let p = r.made.order in omega (arith, b.0))
    (λ (l : m ≤ k). let q : k ≡ m = omega arith in omega (arith, ap (λ w. (get_or ls w d).start) q))
    (cases_lt k m)

-- the offsets of lines are boundaries
follow_cut : (t : List ℕ) (ls : List Line) (i j k : ℕ) (l : Line) → IsUtf8 t → IsCharBoundary t i → Follow t i j ls → slice_get ls k ≡ Some l → IsCutAt t l
follow_cut t [] i j k l u b f e = absurd (no_item k l e)
follow_cut t (m ∷ ls) i j zero l u b f e =
    subst (λ w. IsCutAt t w) (same_Some _ _ e) (line_cut t m u f.1 (subst (λ w. IsCharBoundary t w) (sym f.0) b))
follow_cut t (m ∷ ls) i j (suc k) l u b f e =
    let c = line_cut t m u f.1 (subst (λ w. IsCharBoundary t w) (sym f.0) b) in
    follow_cut t ls m.next j k l u c.next f.2 e

pub table_line : (t : List ℕ) (ls : List Line) (k : ℕ) (l : Line) → AreLines t ls → slice_get ls k ≡ Some l → IsLine t l
table_line t ls k l a e = (line_at t ls 0 (length t) k l (follow a) e).made

pub table_cut : (t : List ℕ) (ls : List Line) (k : ℕ) (l : Line) → IsUtf8 t → AreLines t ls → slice_get ls k ≡ Some l → IsCutAt t l
table_cut t ls k l u a e = follow_cut t ls 0 (length t) k l u (IsCharBoundary-start t u) (follow a) e

-- each line begins at the start of a line
next_start : {t : List ℕ} {h j : ℕ} → LineEnd t h j → (LineStart t j) ⊎ (length t ≤ j)
next_start (at_break b) = inl (after_break b)
next_start (at_end e) = inr (omega arith)

start_of_line : (t : List ℕ) (i : ℕ) (l : Line) → IsLine t l → l.start ≡ i → (LineStart t i) ⊎ (length t ≤ i) → LineStart t l.start
start_of_line t i l m e (inl s) = subst (λ k. LineStart t k) (sym e) s
start_of_line t i l m e (inr s) = let o = m.order in let w = end_within m.ends in absurd (omega (arith, w.1))

follow_start : (t : List ℕ) (ls : List Line) (i j k : ℕ) (l : Line) → (LineStart t i) ⊎ (length t ≤ i) → Follow t i j ls → slice_get ls k ≡ Some l → LineStart t l.start
follow_start t [] i j k l s f e = absurd (no_item k l e)
follow_start t (m ∷ ls) i j zero l s f e = subst (λ w. LineStart t w.start) (same_Some _ _ e) (start_of_line t i m f.1 f.0 s)
follow_start t (m ∷ ls) i j (suc k) l s f e = follow_start t ls m.next j k l (next_start f.1.ends) f.2 e

pub table_start : (t : List ℕ) (ls : List Line) (k : ℕ) (l : Line) → AreLines t ls → slice_get ls k ≡ Some l → LineStart t l.start
table_start t ls k l a e = follow_start t ls 0 (length t) k l (inl at_text) (follow a) e

-- the line that holds an offset before the end of the text
pub record LineOf (ls : List Line) (e : ℕ) : Type 0 where
  pub index : ℕ
  pub line : Line
  pub is : slice_get ls index ≡ Some line
  pub from : line.start ≤ e
  pub before : e < line.next

follow_of : (t : List ℕ) (ls : List Line) (i j e : ℕ) → Follow t i j ls → i ≤ e → e < j → LineOf ls e
follow_of t [] i j e f o l = absurd (omega (arith, f))
follow_of t (m ∷ ls) i j e f o l =
    ⊎_elim
    (λ (s : e < m.next). record { index = 0; line = m; is = refl; from = omega (arith, f.0); before = s })
    (λ (s : m.next ≤ e).
    let r = follow_of t ls m.next j e f.2 s l in
    record { index = suc r.index; line = r.line; is = r.is; from = r.from; before = r.before })
    (cases_lt e m.next)

pub line_of : (t : List ℕ) (ls : List Line) (e : ℕ) → AreLines t ls → e < length t → LineOf ls e
line_of t ls e a l = follow_of t ls 0 (length t) e (follow a) (omega arith) l
