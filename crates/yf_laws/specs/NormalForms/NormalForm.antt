-- The readings that are laid out: normal forms of the readings of texts.
use Rattle.std.specs.Prelude.{ℕ, List}
use Rattle.std.specs.Str.{IsUtf8}
use Rattle.yf_events.specs.Nested.{IsStream}
use Rattle.yf_events.specs.Reading.{events_of}
use Rattle.yf_events.specs.declared.lists.Lists.{Lists}
use Rattle.yf_events.specs.declared.reading.TheConstants.{DEPTH}
use Rattle.yf_forms.specs.declared.style.Style.{Style}
use Rattle.yf_forms.specs.NormalForms.Normal.{Normal}
use Rattle.yf_stream.specs.ReadingOf.{ReadingOf}

-- m is the normal form in the style s of the reading of a text
pub record NormalForm (m : Lists) (s : Style) : Type 0 where
  pub text : List ℕ
  pub utf8 : IsUtf8 text
  pub reading : Lists
  pub reads : ReadingOf text reading
  pub is : Normal text reading s m
  pub nested : IsStream DEPTH (events_of m)
