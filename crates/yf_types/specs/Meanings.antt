-- What messages say of a value.
use Rattle.std.specs.Prelude.{◌≡◌, ℕ, ◌<◌, ◌^◌, ◌+◌, ◌*◌, Bool, true, List, SomeIff, if◌then◌else◌}
use Rattle.yf_types.specs.OlderSchema.{is_colon, is_underscore}
use Rattle.yf_types.specs.Values.{Value, null, boolean, digit_value, integer, number, infinity, is_ambiguous}
use Rattle.yf_types.specs.Values.{not_a_number}
use Rattle.yf_types.specs.Values.{newer, older, timestamp, merge, default, string}
use Rattle.yf_types.specs.declared.meaning.BothReadings.{BothReadings}
use Rattle.yf_types.specs.declared.meaning.Meaning.{Meaning}

-- the number that one more digit of a base makes
abbrev pub digit_step : ℕ → ℕ → ℕ → ℕ
digit_step base n b = if is_underscore b then n else n * base + digit_value b

-- the parts in base 60 after one more byte
abbrev pub next_sum : ℕ → ℕ → ℕ → ℕ
next_sum sum part b = if is_colon b then (sum + part) * 60 else sum

abbrev pub next_part : ℕ → ℕ → ℕ
next_part part b = if is_colon b then 0 else digit_step 10 part b

-- The size of an integer is left out from 2^64 on.
abbrev pub Means : Meaning → Value → Type 0
Means Meaning.Null v = v ≡ null
Means (Meaning.Boolean b) v = v ≡ boolean b
Means (Meaning.Integer negative size) v = (n : ℕ) × ((v ≡ integer negative n) × SomeIff size (n < 2 ^ 64) n)
Means Meaning.Number v = (negative : Bool) × (m : ℕ) × (n : ℕ) × (v ≡ number negative m n)
Means Meaning.Infinity v = (negative : Bool) × (v ≡ infinity negative)
Means Meaning.NotANumber v = v ≡ not_a_number
Means Meaning.Timestamp v = v ≡ timestamp
Means Meaning.Merge v = v ≡ merge
Means Meaning.Default v = v ≡ default
Means Meaning.Text v = v ≡ string

-- the two readings of an ambiguous text
pub record Tells (a : BothReadings) (t : List ℕ) : Type 0 where
  pub ambiguous : is_ambiguous t ≡ true
  pub older : Means a.older (older t)
  pub newer : Means a.newer (newer t)
