-- The statements on a formatted text.
use Rattle.std.specs.Prelude.{◌≡◌, ℕ, List}
use Rattle.yf_forms.specs.declared.style.Style.{Style}
use Rattle.yf_laws.specs.FixedLaws.{IsNormalText}
use Rattle.yf_laws.specs.Format.{IsFormatting}
use Rattle.yf_laws.specs.Keeps.{Keeps}
use Rattle.yf_laws.specs.Laws.{HasSameComments, HasSameContent, IsAccepted, IsUnchanged}

-- u is the layout of the normal form of the reading of t, and no other text is. It is accepted, has the same content
-- and the same comments at the same places, its reading is its own normal form, and a second run changes nothing.
pub record FormatKept (t : List ℕ) (s : Style) (u : List ℕ) : Type 0 where
  pub formats : IsFormatting t s u
  pub only : (v : List ℕ) → IsFormatting t s v → v ≡ u
  pub accepted : IsAccepted u
  pub content : HasSameContent t u
  pub comments : HasSameComments t u
  pub normal : IsNormalText s u
  pub unchanged : IsUnchanged s u
  -- in detail, what formatting leaves unchanged
  pub keeps : Keeps t s u
