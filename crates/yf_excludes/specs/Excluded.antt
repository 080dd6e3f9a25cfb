-- The paths that a list of patterns excludes.
use Rattle.std.specs.Prelude.{◌≡◌, ℕ, ◌+◌, ◌<◌, ◌≤◌, Bool, false, List, [], ◌∷◌, length, take, nat_lt}
use Rattle.yf_excludes.specs.declared.pattern.Pattern.{Pattern}
use Rattle.yf_excludes.specs.Paths.{Lent, Matches}

-- none of the patterns matches
pub data NoneMatches (path : List Lent) (is_folder : Bool) : List Pattern → Type 0 where
  no_pattern : NoneMatches path is_folder []
  and_not : {p : Pattern} {ps : List Pattern} → ¬ (Matches p path is_folder) → NoneMatches path is_folder ps
      → NoneMatches path is_folder (p ∷ ps)

-- a pattern that isn't negated matches, and none after it
pub data Excludes (path : List Lent) (is_folder : Bool) : List Pattern → Type 0 where
  by_this : {p : Pattern} {ps : List Pattern} → Matches p path is_folder → p.negated ≡ false
      → NoneMatches path is_folder ps → Excludes path is_folder (p ∷ ps)
  by_later : {p : Pattern} {ps : List Pattern} → Excludes path is_folder ps → Excludes path is_folder (p ∷ ps)

-- the patterns exclude the path or a folder above it: its first names, more than `above` by one
pub record IsExcluded (patterns : List Pattern) (path : List Lent) : Type 0 where
  pub above : ℕ
  pub within : above < length path
  pub excluded : Excludes (take (above + 1) path) (nat_lt (above + 1) (length path)) patterns
