-- The laws of formatting a text again, each with a plain sentence.
use Rattle.std.specs.Prelude.{ℕ, List}
use Rattle.std.specs.Str.{IsUtf8}
use Rattle.yf_events.specs.declared.lists.Lists.{Lists}
use Rattle.yf_stream.specs.ReadingOf.{ReadingOf}
use Rattle.yf_forms.specs.declared.style.Style.{Style}
use Rattle.yf_laws.specs.Format.{IsFormatting}
use Rattle.yf_laws.specs.Laws.{IsUnchanged}
use Rattle.yf_forms.specs.NormalForms.Normal.{Normal}

-- the reading of u is its own normal form in the style
abbrev pub IsNormalText : Style → List ℕ → Type 0
IsNormalText s u = (q : Lists) → ReadingOf u q → Normal u q s q

-- The reading of a formatted text is in normal form: a second run changes no style, bracket or property.
abbrev pub FormatsAreNormal : Type 0
FormatsAreNormal = (t u : List ℕ) (s : Style) → IsUtf8 t → IsFormatting t s u → IsNormalText s u

-- A second run changes nothing.
abbrev pub FormatsAreFixed : Type 0
FormatsAreFixed = (t u : List ℕ) (s : Style) → IsUtf8 t → IsFormatting t s u → IsUnchanged s u
