-- The bytes of a text from an offset on, to follow written bytes from offset to offset.
use Rattle.std.specs.Prelude.{◌≡◌, ◌≢◌, ℕ, List, drop}
use Rattle.std.specs.Str.{IsCharBoundary}
use Rattle.yf_chars.specs.Signs.{CARRIAGE_RETURN}
use Rattle.yf_chars.specs.Text.{before}

-- a boundary without a CR before it
pub record Rest (t : List ℕ) (q : ℕ) (r : List ℕ) : Type 0 where
  pub bytes : drop q t ≡ r
  pub boundary : IsCharBoundary t q
  pub clean : before t q ≢ CARRIAGE_RETURN
