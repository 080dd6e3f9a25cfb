-- Every text either has a blank line before an offset or hasn't.
use Rattle.std.proofs.Common.{◌≡◌, ◌≢◌, ℕ, zero, suc, ◌-◌, ◌<◌, ◌≤◌, Bool, true, false, true≢false, ◌⊎◌, inl, inr, ⊎_elim, List, sym, ap, ◌∙◌, subst, arith}
use Rattle.std.proofs.lemmas.Bool.{cases_eq, cases_lt, cases_Bool}
use Rattle.std.specs.Str.{IsUtf8}
use Rattle.yf_chars.specs.Text.{code, next, no_char}
use Rattle.yf_chars.specs.Class.{is_white}
use Rattle.yf_chars.proofs.TextLemmas.{next_ascii, next_later, next-mark}
use Rattle.yf_lines.specs.Basic.{Break}
use Rattle.yf_lines.proofs.BasicLemmas.{white_below, break_forward, break_from_lf, break_from_cr, no_break_end}
use Rattle.yf_comments.specs.Comments.{is_gap, Blank, BlankBefore, HasBlankNote}
use Rattle.yf_comments.specs.Comments.Blank.{text_begins, break_ends, white_ends}
use Rattle.yf_comments.specs.Comments.BlankBefore.{blank_line, past_gap}
use Rattle.yf_comments.specs.Comments.HasBlankNote.{noted, not_noted}
use Rattle.yf_comments.proofs.BlankLemmas.{gap_cases, gap_below, gap_of_mark, gap_of_lf, gap_of_cr, gap_of_white, same_place, blank_view, before_view, start_unique, BlankView, text_view, break_view, white_view, BeforeView, line_view, gap_view, past_break, not_last}

-- the break that ends at an offset
pub break_known : (t : List ℕ) (j : ℕ) → ((h : ℕ) × Break t h j) ⊎ ((h : ℕ) → Break t h j → ⊥)
break_known t j =
    ⊎_elim (λ (z : j ≡ 0). inr (λ h b. let f = break_forward b in omega arith))
    (λ (z : j ≢ 0).
    ⊎_elim (λ (e : code t (j - 1) ≡ 10). inl (break_from_lf t j (omega arith) e))
    (λ (n : code t (j - 1) ≢ 10).
    ⊎_elim (λ (c : code t (j - 1) ≡ 13).
    ⊎_elim (λ (l : code t j ≡ 10). inr (λ h b. no_break_end t j n (λ c m. m l) h b)) (λ (m : code t j ≢ 10). inl (break_from_cr t j (omega arith) c m)) (cases_eq (code t j) 10))
    (λ (m : code t (j - 1) ≢ 13). inr (λ h b. no_break_end t j n (λ c _. m c) h b))
    (cases_eq (code t (j - 1)) 13))
    (cases_eq (code t (j - 1)) 10))
    (cases_eq j 0)

-- the character of a gap that ends there
pub gap_known : (t : List ℕ) (j : ℕ) → ((i : ℕ) × (is_gap (code t i) ≡ true) × (next t i ≡ j)) ⊎ ((i : ℕ) → is_gap (code t i) ≡ true → next t i ≡ j → ⊥)
gap_known t j = with_low (cases_lt (code t (j - 1)) 128) (cases_Bool (is_gap (code t (j - 1)))) where
  none : (code t (j - 1) < 128 → is_gap (code t (j - 1)) ≡ true → 0 < j → ⊥) → (3 ≤ j → code t (j - 3) ≢ 0xFEFF) → (i : ℕ) → is_gap (code t i) ≡ true → next t i ≡ j → ⊥
  none low mark i g e =
      ⊎_elim (λ (h : (is_white (code t i) ≡ true) ⊎ ((code t i ≡ 10) ⊎ (code t i ≡ 13))).
      let below : code t i < 128 = ⊎_elim (λ (w : is_white (code t i) ≡ true). white_below (code t i) w)
      (λ (b : (code t i ≡ 10) ⊎ (code t i ≡ 13)). ⊎_elim (λ (l : code t i ≡ 10). omega arith) (λ (r : code t i ≡ 13). omega arith) b) h in
      let place = next_ascii t i below in
      let same : i ≡ j - 1 = omega arith in
      low (subst (λ k. code t k < 128) same below) (subst (λ k. is_gap (code t k) ≡ true) same g) (omega arith))
      (λ (m : code t i ≡ 0xFEFF).
      let place = next-mark t i m in
      let same : i ≡ j - 3 = omega arith in
      mark (omega arith) (ap (code t) (sym same) ∙ m))
      (gap_cases (code t i) g)

  with_mark : (code t (j - 1) < 128 → is_gap (code t (j - 1)) ≡ true → 0 < j → ⊥) → ((i : ℕ) × (is_gap (code t i) ≡ true) × (next t i ≡ j)) ⊎ ((i : ℕ) → is_gap (code t i) ≡ true → next t i ≡ j → ⊥)
  with_mark low =
      ⊎_elim (λ (l : j < 3). inr (none low (λ h. absurd (omega arith))))
      (λ (l : 3 ≤ j).
      ⊎_elim (λ (m : code t (j - 3) ≡ 0xFEFF). inl (j - 3, gap_of_mark (code t (j - 3)) m, next-mark t (j - 3) m ∙ omega arith))
      (λ (m : code t (j - 3) ≢ 0xFEFF). inr (none low (λ h. m)))
      (cases_eq (code t (j - 3)) 0xFEFF))
      (cases_lt j 3)

  with_low : (code t (j - 1) < 128) ⊎ (128 ≤ code t (j - 1)) → (is_gap (code t (j - 1)) ≡ true) ⊎ (is_gap (code t (j - 1)) ≡ false)
      → ((i : ℕ) × (is_gap (code t i) ≡ true) × (next t i ≡ j)) ⊎ ((i : ℕ) → is_gap (code t i) ≡ true → next t i ≡ j → ⊥)
  with_low (inr h) g = with_mark (λ l _ _. omega arith)
  with_low (inl l) (inr n) = with_mark (λ _ g _. true≢false (sym g ∙ n))
  with_low (inl l) (inl g) =
      ⊎_elim (λ (z : j ≡ 0). inr (λ i _ e. let f = next_later t i in omega arith))
      (λ (z : j ≢ 0). inl (j - 1, g, next_ascii t (j - 1) l ∙ omega arith)) (cases_eq j 0)

-- whether only white space is before an offset on its line
pub blank_known : (t : List ℕ) (n j : ℕ) → IsUtf8 t → j ≤ n → Blank t j ⊎ (Blank t j → ⊥)
blank_known t zero j u l = let z : 0 ≡ j = omega arith in inl (subst (λ k. Blank t k) z text_begins)
blank_known t (suc n) j u l =
    ⊎_elim (λ (b : (h : ℕ) × Break t h j). inl (break_ends b.1))
    (λ (b : (h : ℕ) → Break t h j → ⊥).
    ⊎_elim (λ (z : 0 ≡ j). inl (subst (λ k. Blank t k) z text_begins))
    (λ (z : 0 ≢ j).
    ⊎_elim (λ (w : is_white (code t (j - 1)) ≡ true).
    let place : next t (j - 1) ≡ j = next_ascii t (j - 1) (white_below (code t (j - 1)) w) ∙ omega arith in
    ⊎_elim (λ (d : Blank t (j - 1)). inl (subst (λ k. Blank t k) place (white_ends d w)))
    (λ (no : Blank t (j - 1) → ⊥). inr (λ d. refuse z b (λ i c. no c) (blank_view d))) (blank_known t n (j - 1) u (omega arith)))
    (λ (w : is_white (code t (j - 1)) ≡ false). inr (λ d. refuse_char z b w (blank_view d)))
    (cases_Bool (is_white (code t (j - 1)))))
    (cases_eq 0 j))
    (break_known t j)
  where
    refuse : 0 ≢ j → ((h : ℕ) → Break t h j → ⊥) → ((i : ℕ) → Blank t (j - 1) → ⊥) → BlankView t j → ⊥
    refuse z b f (text_view e) = z (sym e)
    refuse z b f (break_view i k) = b i k
    refuse z b f (white_view i c v e) =
        let place = next_ascii t i (white_below (code t i) v) in
        let same : i ≡ j - 1 = omega arith in
        f i (subst (λ k. Blank t k) same c)

    refuse_char : 0 ≢ j → ((h : ℕ) → Break t h j → ⊥) → is_white (code t (j - 1)) ≡ false → BlankView t j → ⊥
    refuse_char z b w (text_view e) = z (sym e)
    refuse_char z b w (break_view i k) = b i k
    refuse_char z b w (white_view i c v e) =
        let place = next_ascii t i (white_below (code t i) v) in
        let same : i ≡ j - 1 = omega arith in
        true≢false (sym v ∙ ap (λ k. is_white (code t k)) same ∙ w)

-- whether a blank line is before an offset
pub before_known : (t : List ℕ) (n j : ℕ) → IsUtf8 t → j ≤ n → BlankBefore t j ⊎ (BlankBefore t j → ⊥)
before_known t zero j u l = inr (λ d. nowhere (before_view d)) where
  nowhere : BeforeView t j → ⊥
  nowhere (line_view i c k) = let f = break_forward k in omega arith
  nowhere (gap_view i c v e) = let f = next_later t i in omega arith
before_known t (suc n) j u l = with_line (λ i m. before_known t n i u m) (break_known t j) where
  refuse : ((h : ℕ) → Break t h j → Blank t h → ⊥) → ((i : ℕ) → is_gap (code t i) ≡ true → next t i ≡ j → BlankBefore t i → ⊥) → BeforeView t j → ⊥
  refuse a b (line_view i c k) = a i k c
  refuse a b (gap_view i c v e) = b i v e c

  with_gap : ((i : ℕ) → i ≤ n → BlankBefore t i ⊎ (BlankBefore t i → ⊥)) → ((h : ℕ) → Break t h j → Blank t h → ⊥) → BlankBefore t j ⊎ (BlankBefore t j → ⊥)
  with_gap known a =
      ⊎_elim (λ (g : (i : ℕ) × (is_gap (code t i) ≡ true) × (next t i ≡ j)).
      let f = next_later t g.0 in
      let e = g.2 in
      ⊎_elim (λ (d : BlankBefore t g.0). inl (subst (λ k. BlankBefore t k) g.2 (past_gap d g.1)))
      (λ (no : BlankBefore t g.0 → ⊥). inr (λ d. refuse a (λ i v e c.
      let same : i ≡ g.0 = same_place t i g.0 u (gap_below (code t i) v) (gap_below (code t g.0) g.1) (e ∙ sym g.2) in
      no (subst (λ k. BlankBefore t k) same c)) (before_view d)))
      (known g.0 (omega arith)))
      (λ (none : (i : ℕ) → is_gap (code t i) ≡ true → next t i ≡ j → ⊥). inr (λ d. refuse a (λ i v e c. none i v e) (before_view d)))
      (gap_known t j)

  with_line : ((i : ℕ) → i ≤ n → BlankBefore t i ⊎ (BlankBefore t i → ⊥)) → ((h : ℕ) × Break t h j) ⊎ ((h : ℕ) → Break t h j → ⊥) → BlankBefore t j ⊎ (BlankBefore t j → ⊥)
  with_line known (inl b) =
      let f = break_forward b.1 in
      ⊎_elim (λ (d : Blank t b.0). inl (blank_line d b.1))
      (λ (no : Blank t b.0 → ⊥). with_gap known (λ h k c. no (subst (λ i. Blank t i) (start_unique t u k b.1) c))) (blank_known t n b.0 u (omega arith))
  with_line known (inr none) = with_gap known (λ h k c. none h k)

pub note_known : (t : List ℕ) (i : ℕ) → IsUtf8 t → (b : Bool) × HasBlankNote t i b
note_known t i u = ⊎_elim (λ (d : BlankBefore t i). (true, noted d)) (λ (no : BlankBefore t i → ⊥). (false, not_noted no)) (before_known t i i u (omega arith))

-- a line with only white space is a blank line before each offset that gaps lead to; no blank line is before the end of
-- a character that is no gap
pub blank_after : {t : List ℕ} {h i j : ℕ} → Break t h i → Break t i j → BlankBefore t j
blank_after a b = blank_line (break_ends a) b

pub none_after : {t : List ℕ} {h j : ℕ} (p : ℕ) → IsUtf8 t → code t p < no_char → is_gap (code t p) ≡ false → next t p ≡ h → Break t h j → BlankBefore t j → ⊥
none_after {t} {h} {j} p u l n e b d =
    ⊎_elim (λ (c : Blank t h). blank (blank_view c)) (λ (c : BlankBefore t h). before (before_view c)) (past_break t u b d)
  where
    no_break : (i : ℕ) → Break t i h → ⊥
    no_break i k = not_last t u p l e (λ q. true≢false (sym (gap_of_lf (code t p) q) ∙ n)) (λ q. true≢false (sym (gap_of_cr (code t p) q) ∙ n)) k

    blank : BlankView t h → ⊥
    blank (text_view z) = let f = next_later t p in omega arith
    blank (break_view i k) = no_break i k
    blank (white_view i c v f) =
        let same : i ≡ p = same_place t i p u (gap_below (code t i) (gap_of_white (code t i) v)) l (f ∙ sym e) in
        true≢false (sym (gap_of_white (code t i) v) ∙ ap (λ k. is_gap (code t k)) same ∙ n)

    before : BeforeView t h → ⊥
    before (line_view i c k) = no_break i k
    before (gap_view i c v f) =
        let same : i ≡ p = same_place t i p u (gap_below (code t i) v) l (f ∙ sym e) in
        true≢false (sym v ∙ ap (λ k. is_gap (code t k)) same ∙ n)
