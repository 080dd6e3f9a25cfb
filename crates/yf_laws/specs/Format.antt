-- The formatting of a text.
use Rattle.std.specs.Prelude.{ℕ, List}
use Rattle.yf_events.specs.declared.lists.Lists.{Lists}
use Rattle.yf_forms.specs.declared.style.Style.{Style}
use Rattle.yf_laws.specs.Layouts.Layout.{IsLayout}
use Rattle.yf_forms.specs.NormalForms.Normal.{Normal}
use Rattle.yf_stream.specs.ReadingOf.{ReadingOf}

-- u is the layout of the normal form of the reading of t
pub record IsFormatting (t : List ℕ) (s : Style) (u : List ℕ) : Type 0 where
  pub reading : Lists
  pub normal : Lists
  pub reads : ReadingOf t reading
  pub is_normal : Normal t reading s normal
  pub writes : IsLayout t normal s u
