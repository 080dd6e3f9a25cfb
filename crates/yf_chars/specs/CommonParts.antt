-- Parts of texts of ASCII characters that double quotes hold unescaped.
use Rattle.std.specs.Prelude.{◌≡◌, ℕ, ◌<◌, ◌≤◌, true, List, slice_index, MatchBool, Bool}
use Rattle.yf_chars.specs.Common.{is_common}

-- each byte from i to j is such a character
abbrev pub CommonBetween : List ℕ → ℕ → ℕ → Type 0
CommonBetween bytes i j = (k : ℕ) → i ≤ k → k < j → is_common (slice_index bytes k) ≡ true

-- b says whether all bytes from i to j are such characters
abbrev pub TellsCommon : Bool → List ℕ → ℕ → ℕ → Type 0
TellsCommon b bytes i j = MatchBool b (CommonBetween bytes i j) (CommonBetween bytes i j → ⊥)
