-- Tests of 16 bytes at once.
use Rattle.std.specs.Prelude.{◌≡◌, ℕ, ◌+◌, ◌<◌, ◌≤◌, ◌==◌, Bool, true, false, List, if◌then◌else◌, slice_index}
use Rattle.std.specs.Int.{w64, trailing_zeros}

-- the number of lanes before the first one with its bit set
abbrev pub lanes_before : ℕ → ℕ
lanes_before mask = if mask == 0 then 16 else trailing_zeros w64 mask

-- of the 16 bytes from i, the first r pass the test, and the next one doesn't
pub record LaneRun (test : ℕ → Bool) (bytes : List ℕ) (i r : ℕ) : Type 0 where
  pub few : r ≤ 16
  pub pass : (k : ℕ) → i ≤ k → k < i + r → test (slice_index bytes k) ≡ true
  pub stops : r < 16 → test (slice_index bytes (i + r)) ≡ false
