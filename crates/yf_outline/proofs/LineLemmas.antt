-- The end of a line.
use Rattle.std.proofs.Common.{◌≡◌, ◌∙◌, ℕ, suc, ◌+◌, ◌-◌, ◌<◌, add-one, arith, Bool, false, List, ap, sym}
use Rattle.std.specs.Prelude.{slice_index, if◌then◌else◌}
use Rattle.yf_outline.specs.Outline.{line_end, line_from}
use Rattle.yf_outline.specs.WhiteSpace.{is_break}

-- one more byte
pub line_more : (t : List ℕ) (at end : ℕ) → at < end → is_break (slice_index t at) ≡ false
    → line_end t (at + 1) end ≡ line_end t at end
line_more t at end l other =
    let n = end - (at + 1) in
    let next : end - at ≡ suc n = omega (arith, l) in
    sym (ap (line_from t at) next ∙ ap (λ (b : Bool). if b then at else line_from t (suc at) n) other
    ∙ ap (λ k. line_from t k n) (sym (add-one at)))
