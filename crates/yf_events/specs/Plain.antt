-- Bytes that the notation has unchanged.
use Rattle.std.specs.Prelude.{◌≡◌, ℕ, ◌<◌, ◌≤◌, List, false, slice_index}
use Rattle.yf_events.specs.Notation.{is_escaped}

-- none of the bytes from i up to j is escaped
abbrev pub PlainBetween : List ℕ → ℕ → ℕ → Type 0
PlainBetween bytes i j = (k : ℕ) → i ≤ k → k < j → is_escaped (slice_index bytes k) ≡ false
