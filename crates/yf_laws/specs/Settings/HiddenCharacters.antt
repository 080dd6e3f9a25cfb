-- How the quoted scalars of a formatted text are spelled, in terms of the bytes of the formatting and of its reading.
use Rattle.std.specs.Prelude.{◌≡◌, ◌≢◌, ◌<◌, ℕ, true, false, List, slice_range}
use Rattle.std.specs.Str.{IsUtf8}
use Rattle.yf_chars.specs.Hidden.{is_hidden}
use Rattle.yf_chars.specs.Signs.{BYTE_ORDER_MARK}
use Rattle.yf_chars.specs.Text.{code, no_char}
use Rattle.yf_lines.specs.declared.invisible.Invisible.TheVariants.{Escaped}
use Rattle.yf_props.specs.Props.{PropsValue}
use Rattle.yf_events.specs.declared.event.ScalarStyle.{ScalarStyle}
use Rattle.yf_events.specs.declared.event.Span.{Span}
use Rattle.yf_events.specs.declared.lists.Lists.{Lists}
use Rattle.yf_stream.specs.ReadingOf.{ReadingOf}
use Rattle.yf_forms.specs.Nodes.ContentStart.{content_start}
use Rattle.yf_forms.specs.Nodes.OneLine.{scalar_text}
use Rattle.yf_forms.specs.declared.style.Style.{Style}
use Rattle.yf_rule_sets.specs.RuleSets.HiddenCharacters.{HiddenCharacter, QuotedPart, is_quoted}
use Rattle.yf_rule_sets.specs.RuleSets.Scalars.{IsScalar, IsWithin}
use Rattle.yf_laws.specs.Format.{IsFormatting}

-- Each quoted scalar of a formatting is, from quote to quote, spelled as the house style spells it: in double quotes
-- with exactly the escapes that the style lists.
abbrev pub QuotesAreSpelled : Type 0
QuotesAreSpelled = (t u : List ℕ) (s : Style) (q : Lists) → IsUtf8 t → IsFormatting t s u → ReadingOf u q → (i : ℕ) (props : PropsValue) (style : ScalarStyle) (text : List ℕ) (span : Span)
    → IsScalar q i props style text span → is_quoted style ≡ true → slice_range u (content_start u span props) span.end ≡ scalar_text s style text

-- Under `invisible = "escaped"` no quoted scalar of a formatting holds a hidden character unescaped: no character from
-- quote to quote is hidden.
abbrev pub HiddenAreEscaped : Type 0
HiddenAreEscaped = (t u : List ℕ) (s : Style) (q : Lists) → IsUtf8 t → IsFormatting t s u → ReadingOf u q → s.invisible ≡ Escaped → (i k : ℕ) (part : Span)
    → QuotedPart u q i part → IsWithin part k → code u k < no_char → is_hidden (code u k) ≡ false

-- So the rule hidden-character finds each hidden character of a formatting, except for byte order marks.
abbrev pub HiddenAreFound : Type 0
HiddenAreFound = (t u : List ℕ) (s : Style) (q : Lists) → IsUtf8 t → IsFormatting t s u → ReadingOf u q → s.invisible ≡ Escaped → (k : ℕ) → code u k < no_char → is_hidden (code u k) ≡ true
    → code u k ≢ BYTE_ORDER_MARK → HiddenCharacter u q s k k
