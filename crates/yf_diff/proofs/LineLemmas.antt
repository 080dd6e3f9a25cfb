-- The first line of a text, by the first line feed in it.
use Rattle.std.proofs.Common.{◌≡◌, ℕ, zero, suc, ◌<◌, ◌==◌, true, false, ⊎_elim, List, [], ◌∷◌, length, take, drop, refl, arith}
use Rattle.std.proofs.lemmas.Bool.{cases_Bool}
use Rattle.memchr.specs.Find.{Nowhere, Passes, is_byte}
use Rattle.yf_diff.specs.Texts.{lines_of}

-- up to the first line feed, and with it
pub line_to_feed : (t : List ℕ) (k : ℕ) → k < length t → Nowhere (Passes (is_byte 10) t) 0 k → Passes (is_byte 10) t k → lines_of t ≡ take (suc k) t ∷ lines_of (drop (suc k) t)
line_to_feed [] k l none here = absurd (omega arith)
line_to_feed (c ∷ t) zero l none here = rw here refl
line_to_feed (c ∷ t) (suc k) l none here =
    ⊎_elim (λ (e : (c == 10) ≡ true). absurd (none 0 (omega arith) (omega arith) e))
    (λ (e : (c == 10) ≡ false). rw (e, line_to_feed t k (omega arith) (λ h a b p. none (suc h) (omega arith) (omega arith) p) here) refl)
    (cases_Bool (c == 10))

-- without a line feed the text is one line
pub line_to_end : (t : List ℕ) → 0 < length t → Nowhere (Passes (is_byte 10) t) 0 (length t) → lines_of t ≡ t ∷ []
line_to_end [] l none = absurd (omega arith)
line_to_end (c ∷ []) l none =
    ⊎_elim (λ (e : (c == 10) ≡ true). absurd (none 0 (omega arith) (omega arith) e))
    (λ (e : (c == 10) ≡ false). rw e refl)
    (cases_Bool (c == 10))
line_to_end (c ∷ d ∷ t) l none =
    ⊎_elim (λ (e : (c == 10) ≡ true). absurd (none 0 (omega arith) (omega arith) e))
    (λ (e : (c == 10) ≡ false). rw (e, line_to_end (d ∷ t) (omega arith) (λ h a b p. none (suc h) (omega arith) (omega arith) p)) refl)
    (cases_Bool (c == 10))
