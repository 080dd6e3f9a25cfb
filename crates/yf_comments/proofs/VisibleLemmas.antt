-- No blank line is before the end of a visible character.
use Rattle.std.proofs.Common.{◌≡◌, ◌≢◌, ℕ, ◌+◌, ◌-◌, ◌<◌, ◌≤◌, true, false, ⊎_elim, List, length, get_or, sym, ap, ◌∙◌, arith}
use Rattle.std.proofs.lemmas.Bool.{cases_Bool}
use Rattle.std.specs.Str.{IsUtf8}
use Rattle.yf_chars.specs.Class.{is_white}
use Rattle.yf_chars.specs.Text.{code, next, CharAt}
use Rattle.yf_chars.proofs.TextLemmas.{code_from_byte, bytes_from_mark}
use Rattle.yf_lines.proofs.BasicLemmas.{break_end, white_cases}
use Rattle.yf_comments.specs.Comments.{Blank, BlankBefore}
use Rattle.yf_comments.proofs.BlankLemmas.{before_past, no_before, no_blank, past_break, break_of_lf}
use Rattle.yf_lines.proofs.SearchLemmas.{no_mark_after}

not_white : (c : ℕ) → 32 < c → is_white c ≡ false
not_white c l =
    ⊎_elim (λ (e : is_white c ≡ true). ⊎_elim (λ (h : c ≡ 32). absurd (omega arith)) (λ (h : c ≡ 9). absurd (omega arith)) (white_cases c e))
    (λ (e : is_white c ≡ false). e)
    (cases_Bool (is_white c))

pub no_blank_after : (t : List ℕ) (j : ℕ) → IsUtf8 t → j ≢ 0 → j ≤ length t → 32 < get_or t (j - 1) 0 → get_or t (j - 1) 0 ≤ 126 → BlankBefore t j → ⊥
no_blank_after t j u z w a b =
    let c : code t (j - 1) ≡ get_or t (j - 1) 0 = code_from_byte t (j - 1) u (omega arith) (omega arith) in
    no_before t u j (not_white (code t (j - 1)) (omega arith)) (no_mark_after t j u (omega arith))
    (λ i k. ⊎_elim (λ (h : code t (j - 1) ≡ 10). omega arith) (λ (h : (code t (j - 1) ≡ 13) × (code t j ≢ 10)). let l = h.0 in omega arith) (break_end k))
    (λ _ h. omega arith)

pub no_blank_line_after : (t : List ℕ) (j : ℕ) → IsUtf8 t → j ≢ 0 → j ≤ length t → 32 < get_or t (j - 1) 0 → get_or t (j - 1) 0 ≤ 126 → Blank t j → ⊥
no_blank_line_after t j u z w a b =
    let c : code t (j - 1) ≡ get_or t (j - 1) 0 = code_from_byte t (j - 1) u (omega arith) (omega arith) in
    no_blank t u j (omega arith) (not_white (code t (j - 1)) (omega arith))
    (λ i k. ⊎_elim (λ (h : code t (j - 1) ≡ 10). omega arith) (λ (h : (code t (j - 1) ≡ 13) × (code t j ≢ 10)). let l = h.0 in omega arith) (break_end k))

pub no_return_after : (t : List ℕ) (j : ℕ) → IsUtf8 t → j ≢ 0 → j ≤ length t → 32 < get_or t (j - 1) 0 → get_or t (j - 1) 0 ≤ 126 → code t (j - 1) ≢ 13
no_return_after t j u z w a b e =
    let c : code t (j - 1) ≡ get_or t (j - 1) 0 = code_from_byte t (j - 1) u (omega arith) (omega arith) in
    omega arith

-- and back over a space
pub before_space : (t : List ℕ) (j : ℕ) → IsUtf8 t → j ≢ 0 → CharAt t (j - 1) 32 (j - 1 + 1) → BlankBefore t j → BlankBefore t (j - 1)
before_space t j u z r d =
    let c = r.char in
    let e : next t (j - 1) ≡ j = r.end ∙ omega arith in
    before_past t u (j - 1) (omega arith) e (omega arith) (omega arith) d

-- and over a line feed
pub before_feed : (t : List ℕ) (j : ℕ) → IsUtf8 t → j ≢ 0 → CharAt t (j - 1) 10 (j - 1 + 1) → code t (j - 1 - 1) ≢ 13 → (Blank t (j - 1) → ⊥)
    → (BlankBefore t (j - 1) → ⊥) → BlankBefore t j → ⊥
before_feed t j u z r n blank before d =
    let two : j - 1 - 1 ≡ j - 2 = omega arith in
    let k = break_of_lf t j (omega arith) (λ e. n (ap (code t) two ∙ e)) r.char in
    ⊎_elim (λ (b : Blank t (j - 1)). blank b) (λ (b : BlankBefore t (j - 1)). before b) (past_break t u k d)
