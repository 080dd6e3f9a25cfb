-- The open collections in the printer, the innermost last: a list of all, and a list of those with a source column.
use Rattle.std.specs.Prelude.{ℕ, ◌≡◌, ◌+◌, ◌<◌, Bool, true, filter, if◌then◌else◌, is_some, List, [], ◌∷◌, reverse}
use Rattle.std.specs.List.{All}
use Rattle.std.specs.List.Sorted.{IsNonDecreasingBy}
use Rattle.yf_print.specs.Layouts.CommentColumns.{OpenBlock, or_else}

-- an entry ends the collections of a higher rank
abbrev pub rank : OpenBlock → ℕ
rank b = b.printed + b.printed + (if b.is_sequence then 1 else 0)

-- each collection has a higher rank than those around it; the innermost is the first
abbrev pub RanksFall : List OpenBlock → Type 0
RanksFall [] = Unit {0}
RanksFall (b ∷ bs) = All (λ c. rank c < rank b) bs × RanksFall bs

abbrev pub has_source : OpenBlock → Bool
has_source b = is_some b.source

abbrev pub source_of : OpenBlock → ℕ
source_of b = or_else b.source 0

-- each collection has a source column, which is not left of one around it; the innermost is the last
pub record IsSourced (bs : List OpenBlock) : Type 0 where
  pub each : All (λ b. has_source b ≡ true) bs
  pub rises : IsNonDecreasingBy source_of bs

pub record IsHeld (all sourced : List OpenBlock) : Type 0 where
  pub ranks : RanksFall (reverse all)
  pub are : sourced ≡ filter has_source all
  pub rises : IsNonDecreasingBy source_of sourced
