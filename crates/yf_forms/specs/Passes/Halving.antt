-- The end of a search by halving, for offsets in any order.
use Rattle.std.specs.Prelude.{◌≡◌, ℕ, ◌+◌, ◌-◌, ◌/◌, ◌<◌, ◌≤◌, ◌⊎◌, length, List, Option, Some, None, slice_index}
use Rattle.std.specs.List.Sorted.{IsNonDecreasingBy}
use Rattle.yf_forms.specs.declared.form.comments_before.TheConstants.{UNKNOWN}

abbrev pub middle : ℕ → ℕ → ℕ
middle low high = low + (high - low) / 2

-- the search for an offset among those from one index up to another ends at an index: it looks at the one in the
-- middle, and goes on after it if that is smaller, and before it otherwise
pub data Halves (offsets : List ℕ) (offset : ℕ) : ℕ → ℕ → ℕ → Type 0 where
  none_left : {low high : ℕ} → high ≤ low → Halves offsets offset low high low
  after_middle : {low high end : ℕ} → low < high → slice_index offsets (middle low high) < offset → Halves offsets offset (middle low high + 1) high end
      → Halves offsets offset low high end
  before_middle : {low high end : ℕ} → low < high → offset ≤ slice_index offsets (middle low high) → Halves offsets offset low (middle low high) end
      → Halves offsets offset low high end

-- the index of an offset that is at `from` or after it, and before `to`: the index at which the search for `from` ends,
-- if its offset is before `to`
pub data HalvesBetween (offsets : List ℕ) (from to : ℕ) : Option ℕ → Type 0 where
  found : {k : ℕ} → Halves offsets from 0 (length offsets) k → k < length offsets → slice_index offsets k < to → HalvesBetween offsets from to (Some k)
  not_found : {k : ℕ} → Halves offsets from 0 (length offsets) k → (k < length offsets → to ≤ slice_index offsets k) → HalvesBetween offsets from to None

-- a search that begins near the index `near` finds the result of halving: the offsets are in order, or `near` is
-- `UNKNOWN`, and the search is by halving from the start
abbrev pub MayBegin : {X : Type 0} → (X → ℕ) → List X → ℕ → Type 0
MayBegin offset_of xs near = (near ≡ UNKNOWN) ⊎ IsNonDecreasingBy offset_of xs

-- if one search got `UNKNOWN` as the index to begin near, the next search gets it too
abbrev pub StaysUnknown : ℕ → ℕ → Type 0
StaysUnknown near next = near ≡ UNKNOWN → next ≡ UNKNOWN
