-- The results of `is_blank_after`, for all arguments: its walk step by step, in the order in which it looks.
use Rattle.std.specs.Prelude.{◌≡◌, ◌≢◌, ℕ, ◌-◌, ◌<◌, ◌≤◌, Bool, true, false, List}
use Rattle.yf_chars.specs.Class.{is_white}
use Rattle.yf_chars.specs.Signs.{BYTE_ORDER_MARK}
use Rattle.yf_chars.specs.Text.{code}
use Rattle.yf_lines.specs.Basic.{Break}

-- from the offset back; the first flag says whether only white space is between the offset and a break that was
-- passed, and the second is the result
pub data WalksBack (t : List ℕ) (floor : ℕ) : ℕ → Bool → Bool → Type 0 where
  floor_reached : {j : ℕ} {blank : Bool} → j ≤ floor → WalksBack t floor j blank blank
  white_passed : {j : ℕ} {blank answer : Bool} → floor < j → is_white (code t (j - 1)) ≡ true
      → WalksBack t floor (j - 1) blank answer → WalksBack t floor j blank answer
  blank_line_met : {i j : ℕ} → floor < j → is_white (code t (j - 1)) ≡ false → Break t i j → WalksBack t floor j true true
  break_passed : {i j : ℕ} {answer : Bool} → floor < j → is_white (code t (j - 1)) ≡ false → Break t i j
      → WalksBack t floor i true answer → WalksBack t floor j false answer
  mark_passed : {j : ℕ} {blank answer : Bool} → floor < j → is_white (code t (j - 1)) ≡ false → ((i : ℕ) → Break t i j → ⊥)
      → 3 ≤ j → code t (j - 3) ≡ BYTE_ORDER_MARK → WalksBack t floor (j - 3) false answer → WalksBack t floor j blank answer
  nothing_passed : {j : ℕ} {blank : Bool} → floor < j → is_white (code t (j - 1)) ≡ false → ((i : ℕ) → Break t i j → ⊥)
      → (3 ≤ j → code t (j - 3) ≢ BYTE_ORDER_MARK) → WalksBack t floor j blank false
