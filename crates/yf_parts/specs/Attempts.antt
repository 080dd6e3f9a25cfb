-- What an attempt is: a text with some hunks applied that has the formatting of the text.
use Rattle.std.specs.Prelude.{◌≡◌, ℕ, length, map, true, string_bytes}
use Rattle.yf_rules.specs.Headline.{Headline}
use Rattle.yf_parts.specs.Hunks.{Fits, spliced}
use Rattle.yf_parts.specs.Tries.{IsNarrowed, Tried, TryFails, counts_from, near_all}
use Rattle.yf_parts.specs.declared.candidates.Reach.{Reach}
use Rattle.yf_parts.specs.declared.search.Attempt.{Attempt}
use Rattle.yf_parts.specs.declared.search.PartContext.{PartContext}

-- The hunks are within both texts and in order, and each has a flag.
pub record IsContext (x : PartContext) : Type 0 where
  pub fits : Fits (length x.text.now) (length x.formatted.now) 0 x.hunks.now
  pub count : length x.flags.now ≡ length x.hunks.now
  pub counts : x.counts.now ≡ counts_from 0 x.flags.now

-- All hunks make the formatting, which is its own formatting.
pub record IsWhole (x : PartContext) : Type 0 where
  pub formats : Headline x.formatted.now x.style.now x.formatted.now
  pub made : x.formatted.now ≡ spliced x.text.now x.formatted.now x.hunks.now (map (λ _. true) x.flags.now) 0

-- The hunks within the reach are applied, and the formatting of the result is that of the text.
pub record Works (x : PartContext) (attempt : Attempt) : Type 0 where
  pub chosen : attempt.applied.items ≡ near_all attempt.reach x.flags.now 0 x.flags.now
  pub made : string_bytes attempt.text ≡ spliced x.text.now x.formatted.now x.hunks.now attempt.applied.items 0
  pub formats : Headline (string_bytes attempt.text) x.style.now x.formatted.now

-- The hunks within the reach are not enough.
abbrev pub FailsAt : PartContext → Reach → Type 0
FailsAt x reach = TryFails x.text.now x.style.now x.formatted.now x.hunks.now x.flags.now reach

-- The first radius that works, and then as few hunks on each side as work.
pub record IsSearched (x : PartContext) (attempt : Attempt) : Type 0 where
  pub works : Works x attempt
  pub radius : ℕ
  pub tried : Tried (FailsAt x) radius
  pub narrowed : IsNarrowed (FailsAt x) radius attempt.reach
