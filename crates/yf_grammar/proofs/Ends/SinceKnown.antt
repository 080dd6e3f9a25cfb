-- For each text, a blank line is before an offset and after a floor, or none is.
use Rattle.std.proofs.Common.{◌≡◌, ℕ, zero, suc, ◌<◌, ◌≤◌, Bool, true, false, ◌⊎◌, inl, inr, ⊎_elim, List, refl, sym, ◌∙◌, subst, arith}
use Rattle.std.proofs.lemmas.Bool.{cases_lt}
use Rattle.std.specs.Str.{IsUtf8}
use Rattle.yf_chars.specs.Text.{code, next}
use Rattle.yf_chars.proofs.TextLemmas.{next_later}
use Rattle.yf_lines.specs.Basic.{Break}
use Rattle.yf_lines.proofs.BasicLemmas.{break_forward}
use Rattle.yf_comments.specs.Comments.{is_gap, Blank, BlankBefore}
use Rattle.yf_comments.specs.Comments.Blank.{break_ends}
use Rattle.yf_comments.specs.Comments.BlankBefore.{blank_line as line_before, past_gap as gap_before}
use Rattle.yf_comments.proofs.BlankLemmas.{gap_below, same_place, start_unique}
use Rattle.yf_comments.proofs.NoteKnown.{break_known, gap_known, blank_known}
use Rattle.yf_grammar.specs.Productions.ReadParts.{BlankSince, NotedSince}
use Rattle.yf_grammar.specs.Productions.ReadParts.BlankSince.{blank_line, past_gap}
use Rattle.yf_grammar.specs.Productions.ReadParts.NotedSince.{noted, not_noted}

pub data SinceView (t : List ℕ) (floor j : ℕ) : Type 0 where
  line_view : (i : ℕ) → floor ≤ i → Blank t i → Break t i j → SinceView t floor j
  gap_view : (i : ℕ) → BlankSince t floor i → is_gap (code t i) ≡ true → next t i ≡ j → SinceView t floor j

pub since_view : {t : List ℕ} {floor j : ℕ} → BlankSince t floor j → SinceView t floor j
since_view (blank_line {i = i} l b k) = line_view i l b k
since_view (past_gap {i = i} b e) = gap_view i b e refl

-- since the start of a text
pub since_zero : {t : List ℕ} {j : ℕ} → BlankBefore t j → BlankSince t 0 j
since_zero (line_before b k) = blank_line (omega arith) b k
since_zero (gap_before b e) = past_gap (since_zero b) e

pub since_known : (t : List ℕ) (floor n j : ℕ) → IsUtf8 t → j ≤ n → BlankSince t floor j ⊎ (BlankSince t floor j → ⊥)
since_known t floor zero j u l = inr (λ d. nowhere (since_view d)) where
  nowhere : SinceView t floor j → ⊥
  nowhere (line_view i m c k) = let f = break_forward k in omega arith
  nowhere (gap_view i c v e) = let f = next_later t i in omega arith
since_known t floor (suc n) j u l = with_line (λ i m. since_known t floor n i u m) (break_known t j) where
  refuse : ((h : ℕ) → floor ≤ h → Break t h j → Blank t h → ⊥) → ((i : ℕ) → is_gap (code t i) ≡ true → next t i ≡ j → BlankSince t floor i → ⊥) → SinceView t floor j → ⊥
  refuse a b (line_view i m c k) = a i m k c
  refuse a b (gap_view i c v e) = b i v e c

  with_gap : ((i : ℕ) → i ≤ n → BlankSince t floor i ⊎ (BlankSince t floor i → ⊥)) → ((h : ℕ) → floor ≤ h → Break t h j → Blank t h → ⊥)
      → BlankSince t floor j ⊎ (BlankSince t floor j → ⊥)
  with_gap known a =
      ⊎_elim (λ (g : (i : ℕ) × (is_gap (code t i) ≡ true) × (next t i ≡ j)).
      let f = next_later t g.0 in
      let e = g.2 in
      ⊎_elim (λ (d : BlankSince t floor g.0). inl (subst (λ k. BlankSince t floor k) g.2 (past_gap d g.1)))
      (λ (not_so : BlankSince t floor g.0 → ⊥). inr (λ d. refuse a (λ i v e c.
      let same : i ≡ g.0 = same_place t i g.0 u (gap_below (code t i) v) (gap_below (code t g.0) g.1) (e ∙ sym g.2) in
      not_so (subst (λ k. BlankSince t floor k) same c)) (since_view d)))
      (known g.0 (omega arith)))
      (λ (none : (i : ℕ) → is_gap (code t i) ≡ true → next t i ≡ j → ⊥). inr (λ d. refuse a (λ i v e c. none i v e) (since_view d)))
      (gap_known t j)

  with_line : ((i : ℕ) → i ≤ n → BlankSince t floor i ⊎ (BlankSince t floor i → ⊥)) → ((h : ℕ) × Break t h j) ⊎ ((h : ℕ) → Break t h j → ⊥)
      → BlankSince t floor j ⊎ (BlankSince t floor j → ⊥)
  with_line known (inl b) =
      let f = break_forward b.1 in
      ⊎_elim (λ (low : b.0 < floor). with_gap known (λ h m k c. let same : h ≡ b.0 = start_unique t u k b.1 in omega arith))
      (λ (high : floor ≤ b.0).
      ⊎_elim (λ (d : Blank t b.0). inl (blank_line high d b.1))
      (λ (not_so : Blank t b.0 → ⊥). with_gap known (λ h m k c. not_so (subst (λ i. Blank t i) (start_unique t u k b.1) c))) (blank_known t n b.0 u (omega arith)))
      (cases_lt b.0 floor)
  with_line known (inr none) = with_gap known (λ h m k c. none h k)

pub note_since_known : (t : List ℕ) (floor i : ℕ) → IsUtf8 t → (b : Bool) × NotedSince t floor i b
note_since_known t floor i u =
    ⊎_elim (λ (d : BlankSince t floor i). (true, noted d)) (λ (not_so : BlankSince t floor i → ⊥). (false, not_noted not_so)) (since_known t floor i i u (omega arith))

-- a line of only white space that begins after the floor is one; if no blank line is before an offset, none is after a
-- floor
pub since_after : {t : List ℕ} {floor h i j : ℕ} → floor ≤ i → Break t h i → Break t i j → BlankSince t floor j
since_after l a b = blank_line l (break_ends a) b

pub since_before : {t : List ℕ} {floor j : ℕ} → BlankSince t floor j → BlankBefore t j
since_before (blank_line l b k) = line_before b k
since_before (past_gap b e) = gap_before (since_before b) e
