-- Parts of small streams: offsets without a document marker, comments that follow no blank line.
use Rattle.std.proofs.Common.{◌≡◌, ◌≢◌, ℕ, zero, suc, ◌+◌, ◌<◌, ◌≤◌, Bool, true, false, not, ◌&&◌, ◌||◌, ◌==◌, List, refl, sym, ap, ◌∙◌, ◌⊎◌, inl, inr, ⊎_elim, arith}
use Rattle.std.proofs.lemmas.Bool.{true≢false, eqb-true, cases_Bool, cases_eq, and_parts}
use Rattle.yf_chars.specs.Text.{code, next}
use Rattle.yf_chars.specs.Class.{is_white, is_break_char}
use Rattle.yf_chars.proofs.TextLemmas.{next_later, next_ascii, next-mark}
use Rattle.yf_lines.proofs.BasicLemmas.{white_below}
use Rattle.yf_lines.specs.Basic.{Break, Clear, is_marker}
use Rattle.yf_lines.specs.Basic.Break.{cr_lf, lone_cr, lone_lf}
use Rattle.yf_comments.specs.Comments.{Blank, BlankBefore, HasBlankNote, is_gap}
use Rattle.yf_comments.specs.Comments.Blank.{text_begins, break_ends, white_ends}
use Rattle.yf_comments.specs.Comments.BlankBefore.{blank_line, past_gap}
use Rattle.yf_comments.specs.Comments.HasBlankNote.{not_noted}

-- no document marker is at the offset
pub clear_one : (t : List ℕ) (i : ℕ) → is_marker t i ≡ false → Clear t i (i + 1)
clear_one t i e = record { none = λ h l m f. let same : h ≡ i = omega arith in true≢false (sym f.marker ∙ ap (is_marker t) same ∙ e) }

-- the start of a break that ends at the offset
break_at : {t : List ℕ} {i j : ℕ} → Break t i j → ((i + 1 ≡ j) × ((code t i ≡ 10) ⊎ (code t i ≡ 13))) ⊎ ((i + 2 ≡ j) × ((code t i ≡ 13) × (code t (i + 1) ≡ 10)))
break_at (cr_lf p q) = inr (refl, (p, q))
break_at (lone_cr p q) = inl (refl, inr p)
break_at (lone_lf p q) = inl (refl, inl p)

-- a character of a gap has one byte, or is a mark
gap_at : (t : List ℕ) (i : ℕ) → is_gap (code t i) ≡ true → (next t i ≡ i + 1) ⊎ (code t i ≡ 0xFEFF)
unfolding is_gap is_break_char
gap_at t i e = ⊎_elim (λ (w : is_white (code t i) ≡ true). inl (next_ascii t i (white_below _ w))) others (cases_Bool (is_white (code t i))) where
  breaks : (code t i == 10) || (code t i == 13) ≡ true → next t i ≡ i + 1
  breaks b = ⊎_elim (λ (l : (code t i == 10) ≡ true). let s = eqb-true (code t i) 10 l in next_ascii t i (omega arith))
      (λ (l : (code t i == 10) ≡ false). let s = eqb-true (code t i) 13 (rw l at b) in next_ascii t i (omega arith)) (cases_Bool (code t i == 10))

  others : is_white (code t i) ≡ false → (next t i ≡ i + 1) ⊎ (code t i ≡ 0xFEFF)
  others w = ⊎_elim (λ (b : (code t i == 10) || (code t i == 13) ≡ true). inl (breaks b))
      (λ (b : (code t i == 10) || (code t i == 13) ≡ false). inr (eqb-true (code t i) 0xFEFF (rw (w, b) at e))) (cases_Bool ((code t i == 10) || (code t i == 13)))

-- a comment at the start of the text, or after a line that ends with the character at p, which is no gap, and a line
-- feed; no mark is near
module _ (t : List ℕ) where
  at_front : {j : ℕ} → j ≡ 0 → BlankBefore t j → ⊥
  at_front e (blank_line b k) = ⊎_elim (λ p. absurd (omega (arith, p.0))) (λ p. absurd (omega (arith, p.0))) (break_at k)
  at_front e (past_gap {i = i} b g) = let l = next_later t i in absurd (omega arith)

  pub first_comment : HasBlankNote t 0 false
  first_comment = not_noted (at_front refl)

  module _ (p : ℕ) (solid : is_gap (code t p) ≡ false) (feed : code t (p + 1) ≡ 10) (none : (i : ℕ) → i ≤ p → code t i ≢ 0xFEFF) where
    no_feed : (i : ℕ) → i ≡ p → (code t i ≡ 10) ⊎ (code t i ≡ 13) → ⊥
    unfolding is_gap is_white is_break_char
    no_feed i e b =
        let at_p : code t i ≡ code t p = ap (code t) e in
        ⊎_elim (λ (l : code t i ≡ 10). true≢false (ap is_gap (sym l ∙ at_p) ∙ solid)) (λ (r : code t i ≡ 13). true≢false (ap is_gap (sym r ∙ at_p) ∙ solid)) b

    no_gap : (i : ℕ) → i ≡ p → is_gap (code t i) ≡ true → ⊥
    no_gap i e g = true≢false (sym g ∙ ap is_gap (ap (code t) e) ∙ solid)

    white_gap : (i : ℕ) → is_white (code t i) ≡ true → is_gap (code t i) ≡ true
    unfolding is_gap
    white_gap i w = rw w refl

    blank_end : {j : ℕ} → j ≡ p + 1 → Blank t j → ⊥
    blank_end e text_begins = omega arith
    blank_end e (break_ends {i = i} k) =
        ⊎_elim (λ a. no_feed i (omega (arith, a.0)) a.1) (λ a. no_feed (i + 1) (omega (arith, a.0)) (inl a.1.1)) (break_at k)
    blank_end e (white_ends {i = i} b w) =
        let a : next t i ≡ i + 1 = next_ascii t i (white_below _ w) in no_gap i (omega arith) (white_gap i w)

    gap_end : {j : ℕ} → j ≡ p + 1 → BlankBefore t j → ⊥
    gap_end e (blank_line {i = i} b k) =
        ⊎_elim (λ a. no_feed i (omega (arith, a.0)) a.1) (λ a. no_feed (i + 1) (omega (arith, a.0)) (inl a.1.1)) (break_at k)
    gap_end e (past_gap {i = i} b g) =
        ⊎_elim (λ (a : next t i ≡ i + 1). no_gap i (omega arith) g) (λ (a : code t i ≡ 0xFEFF). let m = next-mark t i a in none i (omega arith) a) (gap_at t i g)

    line_end : {j : ℕ} → j ≡ p + 2 → BlankBefore t j → ⊥
    line_end e (blank_line {i = i} b k) =
        ⊎_elim (λ a. blank_end (omega (arith, a.0)) b) (λ a. no_feed i (omega (arith, a.0)) (inr a.1.0)) (break_at k)
    line_end e (past_gap {i = i} b g) =
        ⊎_elim (λ (a : next t i ≡ i + 1). gap_end (omega arith) b) (λ (a : code t i ≡ 0xFEFF). let m = next-mark t i a in none i (omega arith) a) (gap_at t i g)

    pub later_comment : HasBlankNote t (p + 2) false
    later_comment = not_noted (line_end refl)

-- no byte order mark is at one of the first n offsets
unfoldable pub unmarked : List ℕ → ℕ → Bool
unmarked t zero = true
unmarked t (suc n) = not (code t n == 0xFEFF) && unmarked t n

pub no_mark : (t : List ℕ) (n i : ℕ) → unmarked t n ≡ true → i < n → code t i ≢ 0xFEFF
unfolding unmarked
no_mark t zero i e l h = absurd (omega arith)
no_mark t (suc n) i e l h = ⊎_elim here (λ (m : i ≡ n → ⊥). further (omega (arith, m)) (no_mark t n i)) (cases_eq i n) where
  here : i ≡ n → ⊥
  here s =
      let same : code t n ≡ 0xFEFF = ap (code t) (sym s) ∙ h in
      let test : (code t n == 0xFEFF) ≡ true = rw same refl in
      true≢false (sym e ∙ rw test refl)

  further : i < n → (unmarked t n ≡ true → i < n → code t i ≢ 0xFEFF) → ⊥
  further m before = ⊎_elim (λ (b : (code t n == 0xFEFF) ≡ true). true≢false (sym e ∙ rw b refl))
      (λ (b : (code t n == 0xFEFF) ≡ false). before (rw b at e) m h) (cases_Bool (code t n == 0xFEFF))

-- it holds for each of the first n offsets, with the code there
unfoldable pub all_at : (ℕ → ℕ → Bool) → List ℕ → ℕ → Bool
all_at f t zero = true
all_at f t (suc n) = f n (code t n) && all_at f t n

pub holds_at : (f : ℕ → ℕ → Bool) (t : List ℕ) (n i : ℕ) → all_at f t n ≡ true → i < n → f i (code t i) ≡ true
unfolding all_at
holds_at f t zero i e l = absurd (omega arith)
holds_at f t (suc n) i e l =
    let both = and_parts (f n (code t n)) (all_at f t n) e in
    ⊎_elim (λ (s : i ≡ n). rw s both.0) (λ (m : i ≡ n → ⊥). holds_at f t n i both.1 (omega (arith, m))) (cases_eq i n)
