-- The start of an implicit key's text after its properties.
use Rattle.std.specs.Prelude.{ℕ, ◌+◌, ◌≤◌, List, Option, Some, None}
use Rattle.std.specs.Str.{IsCharBoundary}
use Rattle.yf_chars.specs.Chain.{Stuck}
use Rattle.yf_comments.specs.Comment.{CommentValue}
use Rattle.yf_comments.specs.Comments.{LineEnd}
use Rattle.yf_block.specs.declared.entry.KeyText.{KeyText}
use Rattle.yf_block.specs.declared.entry.KeyText.TheVariants.{At, Nowhere}
use Rattle.yf_block.specs.declared.properties.PlacedProperties.{PlacedProperties}
use Rattle.yf_block.specs.PropertiesAnswers.{PlaceAfter, NoPlaceAfter}
use Rattle.yf_block.specs.Machine.{PropertiesBefore, earliest_end}

-- the start of the key, or of its text after its properties; nowhere if the line ends after them or no text may
-- follow them
pub data KeyTextAt (t : List ℕ) (start : ℕ) : Option PlacedProperties → KeyText → Type 0 where
  text_bare : KeyTextAt t start None (At start)
  text_after : {held : PlacedProperties} {at : ℕ} → Stuck (LineEnd t held.end) → PlaceAfter t held.end at → KeyTextAt t start (Some held) (At at)
  text_nowhere : {held : PlacedProperties} {p : ℕ} → Stuck (LineEnd t held.end) → NoPlaceAfter t held.end → KeyTextAt t start (Some held) (Nowhere p)
  text_ended : {held : PlacedProperties} {p k : ℕ} {ds : List CommentValue} → LineEnd t held.end k ds → KeyTextAt t start (Some held) (Nowhere p)

-- the offset is a boundary
abbrev pub KeyTextPlace : List ℕ → ℕ → Option PlacedProperties → KeyText → Type 0
KeyTextPlace t start inner (At p) = IsCharBoundary t p × PropertiesBefore t p inner × (start + 1 ≤ earliest_end p inner)
KeyTextPlace t start inner (Nowhere p) = IsCharBoundary t p
