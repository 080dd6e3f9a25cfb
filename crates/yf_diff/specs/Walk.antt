-- Possible edits at the next lines of two texts.
use Rattle.std.specs.Prelude.{◌≡◌, ℕ, ◌<◌, List, [], length, slice_index_or}
use Rattle.yf_diff.specs.declared.fate.Fate.{Fate}
use Rattle.yf_diff.specs.declared.fate.Fate.TheVariants.{Kept, Dropped, Added}

-- both texts have a line there, and the lines are equal
pub record IsCommon (old : List (List ℕ)) (i : ℕ) (new : List (List ℕ)) (j : ℕ) : Type 0 where
  pub in_old : i < length old
  pub in_new : j < length new
  pub same : slice_index_or old i [] ≡ slice_index_or new j []

-- Only a common line can be kept, only a line of the old text dropped, and only a line of the new text added.
abbrev pub May : Fate → List (List ℕ) → ℕ → List (List ℕ) → ℕ → Type 0
May Kept old i new j = IsCommon old i new j
May Dropped old i new j = i < length old
May Added old i new j = j < length new
