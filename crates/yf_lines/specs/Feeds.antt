-- Spans without line feeds.
use Rattle.std.specs.Prelude.{◌≡◌, ℕ, ◌<◌, ◌≤◌, ◌==◌, Bool, false, List, slice_index, MatchBool}
use Rattle.yf_chars.specs.Signs.{LINE_FEED}

-- no byte from i up to j is a line feed
abbrev pub NoFeeds : List ℕ → ℕ → ℕ → Type 0
NoFeeds bytes i j = (k : ℕ) → i ≤ k → k < j → (slice_index bytes k == LINE_FEED) ≡ false

-- the result is whether that span has no line feed
abbrev pub TellsClear : Bool → List ℕ → ℕ → ℕ → Type 0
TellsClear b bytes i j = MatchBool b (NoFeeds bytes i j) (NoFeeds bytes i j → ⊥)
