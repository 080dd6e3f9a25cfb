-- The style in which the house style writes a scalar, and the lines that it keeps of the scalar.
use Rattle.std.specs.Prelude.{ℕ, Bool, List, [], chars, not, ◌==◌, ◌&&◌, if◌then◌else◌}
use Rattle.std.specs.List.{list_any}
use Rattle.yf_lines.specs.Steady.{is_steady}
use Rattle.yf_lines.specs.declared.quotes.Quotes.{Quotes}
use Rattle.yf_quoted.specs.Written.{quotes_in}
use Rattle.yf_events.specs.Event.{EventValue, scalar_node}
use Rattle.yf_events.specs.declared.event.ScalarStyle.{ScalarStyle}
use Rattle.yf_events.specs.declared.event.ScalarStyle.TheVariants.{Plain, Single, Double, Literal, Folded}
use Rattle.yf_forms.specs.declared.style.Style.{Style}

-- the style of a scalar in quotes
abbrev pub style_in : Quotes → ScalarStyle
style_in Quotes.Single = Single
style_in Quotes.Double = Double

-- the preferred quotes, but single ones only if they can hold the text with these bytes, and no hidden character of
-- it must be escaped
abbrev pub quoted_in : List ℕ → Style → ScalarStyle
quoted_in t house = style_in (quotes_in house.invisible (chars t) house.quotes)

-- the text has a character other than space and line feed
abbrev pub has_block_content : List ℕ → Bool
has_block_content t = list_any (λ b. not (b == 32) && not (b == 10)) t

-- a plain scalar stays plain if its text is steady, a literal or folded one keeps its style if it has a character
-- other than space and line feed, and any other is quoted
abbrev pub wanted : ScalarStyle → List ℕ → Style → ScalarStyle
wanted Plain t house = if is_steady t then Plain else quoted_in t house
wanted Single t house = quoted_in t house
wanted Double t house = quoted_in t house
wanted Literal t house = if has_block_content t then Literal else quoted_in t house
wanted Folded t house = if has_block_content t then Folded else quoted_in t house

-- the wanted style of an event's scalar, and `Plain` for any other event
abbrev pub wanted_of_event : EventValue → Style → ScalarStyle
wanted_of_event (scalar_node props style text) house = wanted style text house
wanted_of_event _ house = Plain

-- the lines kept of a scalar in its style: only a folded one keeps them, as read
abbrev pub lines_in : ScalarStyle → List (List ℕ) → List (List ℕ)
lines_in Folded lines = lines
lines_in style lines = []
