-- The ends and starts of lines, from bytes.
use Rattle.std.proofs.Common.{◌≡◌, ◌≢◌, ℕ, ◌+◌, ◌-◌, ◌<◌, ◌≤◌, true, false, ◌⊎◌, ⊎_elim, List, length, drop, take, get_or, sym, ap, ◌∙◌, subst, arith}
use Rattle.std.proofs.lemmas.Bool.{cases_Bool}
use Rattle.std.proofs.lemmas.Bool.Decides.{nat_tests}
use Rattle.std.proofs.lemmas.List.{get_or-drop, length-drop, take_all}
use Rattle.std.specs.Str.{IsCharBoundary, IsUtf8}
use Rattle.memchr.specs.Find.{Nowhere, Passes, is_byte2}
use Rattle.yf_chars.specs.Class.{is_break_char}
use Rattle.yf_chars.specs.Text.{code}
use Rattle.yf_chars.proofs.TextLemmas.{byte_test, code_from_byte, bytes_from_mark}
use Rattle.yf_lines.specs.Basic.{Break, LineStart}
use Rattle.yf_lines.specs.Lines.{NoBreakIn}
use Rattle.yf_lines.proofs.BasicLemmas.{break_end, no_start}

-- a byte of a break is its character
break_byte : (t : List ℕ) (i : ℕ) → IsUtf8 t → i < length t → is_byte2 10 13 (get_or t i 0) ≡ is_break_char (code t i)
unfolding is_break_char
break_byte t i u l = rw (byte_test t i 10 u (omega arith) l, byte_test t i 13 u (omega arith) l)

break_after : (t : List ℕ) (at k : ℕ) → IsUtf8 t → at + k < length t → is_byte2 10 13 (get_or (drop at t) k 0) ≡ is_break_char (code t (at + k))
break_after t at k u l = ap (is_byte2 10 13) (get_or-drop at t k 0) ∙ break_byte t (at + k) u l

pub break_found : (t : List ℕ) (at k : ℕ) → IsUtf8 t → at + k < length t → Passes (is_byte2 10 13) (drop at t) k → is_break_char (code t (at + k)) ≡ true
break_found t at k u l p = sym (break_after t at k u l) ∙ p

-- such a byte begins a character
low_byte : (x : ℕ) → is_byte2 10 13 x ≡ true → x < 128
low_byte x e = grind (arith, nat_tests)

pub boundary_found : (t : List ℕ) (at k : ℕ) → at + k < length t → Passes (is_byte2 10 13) (drop at t) k → IsCharBoundary t (at + k)
boundary_found t at k l p =
    let b : get_or (drop at t) k 0 < 128 = low_byte (get_or (drop at t) k 0) p in
    let e = get_or-drop at t k 0 in
    (omega arith, λ (s : at + k < length t) (q : 128 ≤ get_or t (at + k) 0). absurd (omega (arith, b, e, q)))

pub unbroken_from : (t : List ℕ) (at k : ℕ) → IsUtf8 t → at + k ≤ length t → Nowhere (Passes (is_byte2 10 13) (drop at t)) 0 k → NoBreakIn t at (at + k)
unbroken_from t at k u l none = record {
  order = omega arith;
  none = λ h a b.
      let same : at + (h - at) ≡ h = omega arith in
      ⊎_elim (λ (e : is_break_char (code t h) ≡ true).
      absurd (none (h - at) (omega arith) (omega arith) (break_after t at (h - at) u (omega arith) ∙ ap (λ v. is_break_char (code t v)) same ∙ e)))
      (λ (e : is_break_char (code t h) ≡ false). e)
      (cases_Bool (is_break_char (code t h)));
}

-- the bytes from an offset on
pub rest_taken : (b t : List ℕ) (at : ℕ) → b ≡ t → take (length b - at) (drop at b) ≡ drop at t
rest_taken b t at e = let l = length-drop at b in take_all (length b - at) (drop at b) (omega arith) ∙ ap (drop at) e

-- no line starts after an ASCII character that is not a control
pub no_mark_after : (t : List ℕ) (j : ℕ) → IsUtf8 t → get_or t (j - 1) 0 < 128 → 3 ≤ j → code t (j - 3) ≢ 0xFEFF
no_mark_after t j u b l e =
    let same : j - 3 + 2 ≡ j - 1 = omega arith in
    let last : get_or t (j - 1) 0 ≡ 191 = ap (λ v. get_or t v 0) (sym same) ∙ (bytes_from_mark t (j - 3) u e).3 in
    omega arith

pub no_start_past : (t : List ℕ) (j : ℕ) → IsUtf8 t → j ≢ 0 → j ≤ length t → 32 ≤ get_or t (j - 1) 0 → get_or t (j - 1) 0 ≤ 126 → LineStart t j → ⊥
no_start_past t j u z w a b =
    let c : code t (j - 1) ≡ get_or t (j - 1) 0 = code_from_byte t (j - 1) u (omega arith) (omega arith) in
    no_start t j z (no_mark_after t j u (omega arith))
    (λ i k. ⊎_elim (λ (h : code t (j - 1) ≡ 10). omega arith) (λ (h : (code t (j - 1) ≡ 13) × (code t j ≢ 10)). let l = h.0 in omega arith) (break_end k))
