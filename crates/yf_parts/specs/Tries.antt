-- The hunks that each try applies.
use Rattle.std.specs.Prelude.{◌≡◌, ℕ, ◌+◌, ◌-◌, ◌≤◌, ◌⊎◌, Bool, List, [], ◌∷◌, slice_range, if◌then◌else◌}
use Rattle.std.specs.Str.{IsUtf8}
use Rattle.yf_forms.specs.declared.style.Style.{Style}
use Rattle.yf_laws.specs.Format.{IsFormatting}
use Rattle.yf_parts.specs.Asked.{has_true}
use Rattle.yf_parts.specs.Hunks.{spliced}
use Rattle.yf_parts.specs.declared.candidates.Reach.{Reach}
use Rattle.yf_parts.specs.declared.candidates.Side.{Side}
use Rattle.yf_parts.specs.declared.candidates.Side.TheVariants.{Before, After}
use Rattle.yf_parts.specs.declared.hunks.Hunk.{Hunk}

-- this many hunks before each touched one and after it
abbrev pub around : ℕ → ℕ → Reach
around m n = record { before = m; after = n }

-- the hunk at an index is within the reach of one with its flag set
abbrev pub is_near : Reach → List Bool → ℕ → Bool
is_near reach flags i = has_true (slice_range flags (i - reach.after) (i + reach.before + 1))

-- the same for each hunk of the rest, from an index on
abbrev pub near_all : Reach → List Bool → ℕ → List Bool → List Bool
near_all reach flags i [] = []
near_all reach flags i (x ∷ rest) = is_near reach flags i ∷ near_all reach flags (i + 1) rest

-- the number of flags that are set in each prefix, plus c
abbrev pub counts_from : ℕ → List Bool → List ℕ
counts_from c [] = c ∷ []
counts_from c (x ∷ rest) = c ∷ counts_from (if x then c + 1 else c) rest

-- v is not a text with the formatting u
abbrev pub IsOther : Style → List ℕ → List ℕ → Type 0
IsOther s u v = IsUtf8 v → IsFormatting v s u → ⊥

-- The hunks within a reach of one with its flag set are not enough: t with these has another formatting than u.
abbrev pub TryFails : List ℕ → Style → List ℕ → List Hunk → List Bool → Reach → Type 0
TryFails t s u hunks flags reach = IsOther s u (spliced t u hunks (near_all reach flags 0 flags) 0)

-- The radius is the first one of 0, 1, 3, 7 and so on, or the ones before it fail on both sides.
pub data Tried (Fails : Reach → Type 0) : ℕ → Type 0 where
  first_try : Tried Fails 0
  next_try : {radius : ℕ} → Tried Fails radius → Fails (around radius radius) → Tried Fails (radius + radius + 1)

-- The reach is within the radius. One hunk less before each touched one fails, with `radius` hunks after it. One hunk
-- less after each fails too, with the hunks of the reach before it.
pub record IsNarrowed (Fails : Reach → Type 0) (radius : ℕ) (reach : Reach) : Type 0 where
  pub within_before : reach.before ≤ radius
  pub within_after : reach.after ≤ radius
  pub before : (reach.before ≡ 0) ⊎ Fails (around (reach.before - 1) radius)
  pub after : (reach.after ≡ 0) ⊎ Fails (around reach.before (reach.after - 1))

-- One side of a reach.
abbrev pub on_side : Side → Reach → ℕ
on_side Before reach = reach.before
on_side After reach = reach.after

abbrev pub with_side : Side → ℕ → Reach → Reach
with_side Before count reach = around count reach.after
with_side After count reach = around reach.before count

-- The number on a side of the reach is the only change from the start. It is not greater, and one less fails.
pub record IsLeast (Fails : Reach → Type 0) (side : Side) (start reach : Reach) : Type 0 where
  pub changed : reach ≡ with_side side (on_side side reach) start
  pub within : on_side side reach ≤ on_side side start
  pub least : (on_side side reach ≡ 0) ⊎ Fails (with_side side (on_side side reach - 1) start)
