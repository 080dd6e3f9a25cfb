-- Statements on the readings of texts, and on a formatted text and its source, each with a plain sentence.
-- `proofs/OfTexts/ReadingsOfTexts.antt` proves the first. The others are parts of `FormatKept`, which the clause of
-- `format` names.
use Rattle.std.specs.Prelude.{◌≡◌, ℕ, List}
use Rattle.std.specs.Str.{IsUtf8}
use Rattle.yf_events.specs.Content.{content_of}
use Rattle.yf_events.specs.declared.lists.Lists.{Lists}
use Rattle.yf_stream.specs.ReadingOf.{ReadingOf}
use Rattle.yf_forms.specs.declared.style.Style.{Style}
use Rattle.yf_laws.specs.Format.{IsFormatting}
use Rattle.yf_laws.specs.NormalForms.OfText.{OfText}
use Rattle.yf_laws.specs.Preservation.SameComments.{kept}

-- Each reading of a UTF-8 text has trees, its comments and its offsets are in the order of the text, and its scalars
-- can be spelled in their styles.
abbrev pub ReadingsAreOfTexts : Type 0
ReadingsAreOfTexts = (t : List ℕ) (r : Lists) → IsUtf8 t → ReadingOf t r → OfText t r

-- The formatted text is accepted.
abbrev pub IsAccepted : List ℕ → Type 0
IsAccepted u = (q : Lists) × ReadingOf u q

-- The formatted text has the same content as the text.
abbrev pub HasSameContent : List ℕ → List ℕ → Type 0
HasSameContent t u = (r q : Lists) → ReadingOf t r → ReadingOf u q → content_of q ≡ content_of r

-- The formatted text has the same comments at the same places.
abbrev pub HasSameComments : List ℕ → List ℕ → Type 0
HasSameComments t u = (r q : Lists) → ReadingOf t r → ReadingOf u q → kept q ≡ kept r

-- Formatting it again changes nothing.
pub record IsUnchanged (s : Style) (u : List ℕ) : Type 0 where
  pub again : IsFormatting u s u
  pub only : (v : List ℕ) → IsFormatting u s v → v ≡ u
