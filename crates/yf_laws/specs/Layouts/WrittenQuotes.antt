-- Quoted scalars that are in a text as they are written.
use Rattle.std.specs.Prelude.{◌≡◌, ℕ, true, List, [], ◌∷◌, slice_range, Option, Some}
use Rattle.std.specs.Str.{IsUtf8}
use Rattle.yf_events.specs.Event.{EventValue, EventInText, scalar_node}
use Rattle.yf_events.specs.declared.event.Span.{Span}
use Rattle.yf_forms.specs.Nodes.ContentStart.{content_start}
use Rattle.yf_forms.specs.Nodes.OneLine.{scalar_text}
use Rattle.yf_forms.specs.declared.style.Style.{Style}
use Rattle.yf_rule_sets.specs.RuleSets.HiddenCharacters.{is_quoted}

-- for a quoted scalar with UTF-8 content, the text from quote to quote is the scalar's text in that style
abbrev pub IsQuoteWritten : Style → List ℕ → EventValue → Option Span → Type 0
IsQuoteWritten s t (scalar_node props style text) (Some span) = is_quoted style ≡ true → IsUtf8 text × (slice_range t (content_start t span props) span.end ≡ scalar_text s style text)
IsQuoteWritten s t event span = Unit {0}

-- this holds for each of these events
pub data QuotesWritten (s : Style) (t : List ℕ) : List EventInText → Type 0 where
  no_quotes : QuotesWritten s t []
  one_quote : (e : EventInText) {es : List EventInText} → IsQuoteWritten s t e.event e.span → QuotesWritten s t es → QuotesWritten s t (e ∷ es)
