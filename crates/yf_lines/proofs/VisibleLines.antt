-- Visible ASCII in lines and in texts.
use Rattle.std.proofs.Common.{◌≡◌, ℕ, ◌+◌, ◌<◌, ◌≤◌, List, ◌∷◌, arith}
use Rattle.std.specs.Str.{IsUtf8}
use Rattle.yf_chars.specs.Text.{code}
use Rattle.yf_chars.proofs.CharBounds.{visible_nb}
use Rattle.yf_lines.specs.LineText.{IsLineText}
use Rattle.yf_lines.proofs.RestLemmas.{Rest, line_ascii, rest_ascii}

pub visible_line : (c : ℕ) {w : List ℕ} → 32 ≤ c → c < 127 → IsLineText w → IsLineText (c ∷ w)
visible_line c l h a = line_ascii c (omega arith) (visible_nb c l h) a

pub visible_at : {t : List ℕ} {q : ℕ} {r : List ℕ} (c : ℕ) → IsUtf8 t → 32 ≤ c → c < 127 → Rest t q (c ∷ r) → (code t q ≡ c) × Rest t (q + 1) r
visible_at c u l h s = let got = rest_ascii c u (omega arith) (λ e. omega arith) s in (got.0.char, got.1)
