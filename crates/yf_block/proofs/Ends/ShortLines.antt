-- Lines of keys, 16 bytes at a time.
use Rattle.std.proofs.Common.{◌≡◌, ℕ, ◌+◌, ◌<◌, ◌≤◌, false, not, ltb, ◌⊎◌, ⊎_elim, List, length, get_or, subst, arith}
use Rattle.std.proofs.lemmas.Bool.{cases_lt, ltb-false}
use Rattle.std.proofs.lemmas.Simd.{run_in_chunk_fails}
use Rattle.std.specs.List.{prefix_len}
use Rattle.std.specs.Str.{IsUtf8}
use lib.Lanes.{chunk}
use Rattle.yf_chars.specs.Class.{is_break_char}
use Rattle.yf_chars.specs.Text.{code}
use Rattle.yf_chars.proofs.BreakChars.{no_break}
use Rattle.yf_chars.proofs.TextLemmas.{byte_from_code}
use Rattle.yf_grammar.specs.FlowReader.Parser.{OnOneLine}

quiet_byte : (t : List ℕ) (h : ℕ) → IsUtf8 t → 14 ≤ get_or t h 0 → is_break_char (code t h) ≡ false
quiet_byte t h u l = no_break (code t h)
    (λ (e : code t h ≡ 10). let b = byte_from_code t h u (omega (arith, e)) in let k = b.1 in omega (arith, e, k))
    (λ (e : code t h ≡ 13). let b = byte_from_code t h u (omega (arith, e)) in let k = b.1 in omega (arith, e, k))

-- the line goes on up to the first low byte of 16
pub line_through : {t w : List ℕ} {i : ℕ} (j r k : ℕ) → IsUtf8 t → w ≡ t → j + 16 ≤ length w → r ≡ prefix_len (λ x. not (ltb x 14)) (chunk j 16 w)
    → k ≤ j + r → OnOneLine t i j → OnOneLine t i k
line_through {t} {w} j r k u e room counted upto o = record {
  each = λ h l m. ⊎_elim
      (λ (s : h < j). o.each h l s)
      (λ (s : j ≤ h). let b = ltb-false (get_or w h 0) 14 (run_in_chunk_fails (λ x. ltb x 14) w j 16 r 0 room counted h s (omega arith)) in
      quiet_byte t h u (subst (λ z. 14 ≤ get_or z h 0) e b))
      (cases_lt h j);
}
