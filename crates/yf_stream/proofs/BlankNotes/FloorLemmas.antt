-- The note whether a blank line is before an offset does not depend on the floor, if a character other than white
-- space, breaks and marks is after the floor: the walk back from the offset ends there.
use Rattle.std.proofs.Common.{◌≡◌, ℕ, ◌+◌, ◌<◌, ◌≤◌, Bool, true, false, ◌⊎◌, ⊎_elim, List, sym, ap, ◌∙◌, arith, true≢false}
use Rattle.std.proofs.lemmas.Bool.{cases_lt}
use Rattle.std.specs.Str.{IsUtf8}
use Rattle.yf_chars.specs.Text.{code, next, no_char}
use Rattle.yf_chars.specs.Class.{is_white}
use Rattle.yf_chars.proofs.TextLemmas.{bytes_from_mark, code-inside, next_ascii, next-mark}
use Rattle.yf_lines.specs.Basic.{Break}
use Rattle.yf_lines.specs.Basic.Break.{cr_lf, lone_cr, lone_lf}
use Rattle.yf_lines.proofs.BasicLemmas.{white_below}
use Rattle.yf_comments.specs.Comments.{is_gap}
use Rattle.yf_comments.proofs.BlankLemmas.{gap_cases, gap_of_cr, gap_of_lf}
use Rattle.yf_grammar.specs.Productions.ReadParts.{BlankSince, NotedSince}
use Rattle.yf_grammar.specs.Productions.ReadParts.BlankSince.{blank_line, past_gap}
use Rattle.yf_grammar.specs.Productions.ReadParts.NotedSince.{noted, not_noted}

module _ {t : List ℕ} (u : IsUtf8 t) (p : ℕ) (real : code t p < no_char) (solid : is_gap (code t p) ≡ false) where
  no_gap_at : {i : ℕ} → is_gap (code t i) ≡ true → p ≡ i → ⊥
  no_gap_at {i} g e = true≢false (sym g ∙ ap (λ k. is_gap (code t k)) (sym e) ∙ solid)

  break_past : {i j : ℕ} → Break t i j → p < j → p < i
  break_past (cr_lf {i = i} a b) l =
      ⊎_elim (λ (m : p < i). m)
      (λ (m : i ≤ p).
      ⊎_elim (λ (n : p < i + 1). absurd (no_gap_at (gap_of_cr (code t i) a) (omega arith)))
      (λ (n : i + 1 ≤ p). absurd (no_gap_at (gap_of_lf (code t (i + 1)) b) (omega arith)))
      (cases_lt p (i + 1)))
      (cases_lt p i)
  break_past (lone_cr {i = i} a b) l =
      ⊎_elim (λ (m : p < i). m) (λ (m : i ≤ p). absurd (no_gap_at (gap_of_cr (code t i) a) (omega arith))) (cases_lt p i)
  break_past (lone_lf {i = i} a b) l =
      ⊎_elim (λ (m : p < i). m) (λ (m : i ≤ p). absurd (no_gap_at (gap_of_lf (code t i) a) (omega arith))) (cases_lt p i)

  low_past : {i : ℕ} → is_gap (code t i) ≡ true → code t i < 128 → p < next t i → p < i
  low_past {i} g b l =
      let n = next_ascii t i b in
      ⊎_elim (λ (m : p < i). m) (λ (m : i ≤ p). absurd (no_gap_at g (omega arith))) (cases_lt p i)

  mark_past : {i : ℕ} → is_gap (code t i) ≡ true → code t i ≡ 0xFEFF → p < next t i → p < i
  mark_past {i} g e l =
      let n = next-mark t i e in
      let b = bytes_from_mark t i u e in
      ⊎_elim (λ (m : p < i). m)
      (λ (m : i ≤ p).
      ⊎_elim (λ (o : p < i + 1). absurd (no_gap_at g (omega arith)))
      (λ (o : i + 1 ≤ p).
      ⊎_elim
      (λ (q : p < i + 2).
      let same : p ≡ i + 1 = omega arith in
      let none : code t (i + 1) ≡ no_char = code-inside t (i + 1) (omega (arith, b.2)) (omega (arith, b.2)) in
      let there : code t p ≡ no_char = ap (code t) same ∙ none in absurd (omega arith))
      (λ (q : i + 2 ≤ p).
      let same : p ≡ i + 2 = omega arith in
      let none : code t (i + 2) ≡ no_char = code-inside t (i + 2) (omega (arith, b.3)) (omega (arith, b.3)) in
      let there : code t p ≡ no_char = ap (code t) same ∙ none in absurd (omega arith))
      (cases_lt p (i + 2)))
      (cases_lt p (i + 1)))
      (cases_lt p i)

  gap_past : {i : ℕ} → is_gap (code t i) ≡ true → p < next t i → p < i
  gap_past {i} g l =
      ⊎_elim
      (λ (h : (is_white (code t i) ≡ true) ⊎ ((code t i ≡ 10) ⊎ (code t i ≡ 13))).
      ⊎_elim (λ (w : is_white (code t i) ≡ true). low_past g (white_below (code t i) w) l)
      (λ (b : (code t i ≡ 10) ⊎ (code t i ≡ 13)).
      ⊎_elim (λ (e : code t i ≡ 10). low_past g (omega arith) l) (λ (e : code t i ≡ 13). low_past g (omega arith) l) b) h)
      (λ (e : code t i ≡ 0xFEFF). mark_past g e l)
      (gap_cases (code t i) g)

  pub since_over : {floor other j : ℕ} → floor ≤ p → p < j → BlankSince t other j → BlankSince t floor j
  since_over o l (blank_line m b k) = let n = break_past k l in blank_line (omega arith) b k
  since_over o l (past_gap d g) = past_gap (since_over o (gap_past g l) d) g

  -- so a note with one floor is the note with another
  pub note_over : {floor other i : ℕ} {b : Bool} → floor ≤ p → other ≤ p → p < i → NotedSince t other i b → NotedSince t floor i b
  note_over o m l (noted d) = noted (since_over o l d)
  note_over o m l (not_noted n) = not_noted (λ d. n (since_over m l d))
