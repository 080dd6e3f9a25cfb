-- Hidden characters outside of quoted scalars, which formatting leaves unchanged.
use Rattle.std.specs.Prelude.{◌≡◌, ◌≢◌, ◌<◌, ℕ, Bool, true, false, List}
use Rattle.yf_chars.specs.Hidden.{is_hidden}
use Rattle.yf_chars.specs.Signs.{BYTE_ORDER_MARK}
use Rattle.yf_chars.specs.Text.{code, no_char}
use Rattle.yf_forms.specs.Nodes.ContentStart.{content_start}
use Rattle.yf_forms.specs.declared.style.Style.{Style}
use Rattle.yf_events.specs.declared.event.ScalarStyle.{ScalarStyle}
use Rattle.yf_events.specs.declared.event.ScalarStyle.TheVariants.{Plain, Single, Double, Literal, Folded}
use Rattle.yf_events.specs.declared.event.Span.{Span}
use Rattle.yf_events.specs.declared.lists.Lists.{Lists}
use Rattle.yf_lines.specs.declared.invisible.Invisible.TheVariants.{Escaped}
use Rattle.yf_props.specs.Props.{PropsValue}
use Rattle.yf_rule_sets.specs.RuleSets.Scalars.{IsScalar, IsWithin}

abbrev pub is_quoted : ScalarStyle → Bool
is_quoted Plain = false
is_quoted Single = true
is_quoted Double = true
is_quoted Literal = false
is_quoted Folded = false

-- the span of a quoted scalar, from quote to quote
pub data QuotedPart (t : List ℕ) (r : Lists) (i : ℕ) : Span → Type 0 where
  of_quoted : {props : PropsValue} {style : ScalarStyle} {text : List ℕ} {s : Span} → IsScalar r i props style text s → is_quoted style ≡ true
      → QuotedPart t r i (record { start = content_start t s props; end = s.end })

-- hidden-character: a hidden character outside of quoted scalars, if the style escapes hidden characters. A byte order
-- mark is not one: outside of quotes it is not content, and byte-order-mark reports it. The index of a character is its
-- offset
pub data HiddenCharacter (t : List ℕ) (r : Lists) (house : Style) (k : ℕ) : ℕ → Type 0 where
  in_no_quotes : house.invisible ≡ Escaped → code t k < no_char → is_hidden (code t k) ≡ true → code t k ≢ BYTE_ORDER_MARK
      → ((i : ℕ) (s : Span) → QuotedPart t r i s → IsWithin s k → ⊥) → HiddenCharacter t r house k k
