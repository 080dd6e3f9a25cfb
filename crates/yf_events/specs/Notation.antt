-- The notation of events as bytes: one line for each event, as the YAML test suite writes them. Backslash, line feed,
-- tab, carriage return and backspace are escaped in texts and tags, and so is every other character below x20.
use Rattle.std.specs.Prelude.{ℕ, ◌+◌, ◌/◌, ◌%◌, Bool, true, false, List, [], ◌∷◌, ◌++◌, Option, Some, None, ◌==◌, ◌||◌, nat_lt, if◌then◌else◌, codes}
use Rattle.std.specs.List.{concat, flat_map, zip}
use Rattle.yf_chars.specs.Signs.{BACKSLASH, CARRIAGE_RETURN, LINE_FEED, TAB}
use Rattle.yf_events.specs.Event.{EventValue, stream_starts, stream_ends, document_starts, document_ends, sequence_starts, sequence_ends, mapping_starts, mapping_ends, scalar_node, alias_node}
use Rattle.yf_events.specs.Reading.{events_of}
use Rattle.yf_events.specs.declared.event.ScalarStyle.{ScalarStyle}
use Rattle.yf_events.specs.declared.event.ScalarStyle.TheVariants.{Plain, Single, Double, Literal, Folded}
use Rattle.yf_events.specs.declared.lists.Lists.{Lists}

-- a hexadecimal digit, with upper-case letters
unfoldable pub hex_digit : ℕ → ℕ
hex_digit n = if nat_lt n 10 then 48 + n else 55 + n

-- one byte of a text or a tag; no byte of a character above x7F is escaped
unfoldable pub escaped_byte : ℕ → List ℕ
escaped_byte c =
    if c == BACKSLASH then codes "\\\\" else
    if c == LINE_FEED then codes "\\n" else
    if c == TAB then codes "\\t" else
    if c == CARRIAGE_RETURN then codes "\\r" else
    if c == 8 then codes "\\b" else
    if nat_lt c 32 then BACKSLASH ∷ 120 ∷ hex_digit (c / 16) ∷ hex_digit (c % 16) ∷ [] else c ∷ []

-- whether a byte is escaped
unfoldable pub is_escaped : ℕ → Bool
is_escaped c = (c == BACKSLASH) || nat_lt c 32

unfoldable pub escaped : List ℕ → List ℕ
escaped text = flat_map escaped_byte text

-- a space, `&` and the anchor
abbrev pub anchor_part : Option (List ℕ) → List ℕ
anchor_part None = []
anchor_part (Some name) = codes " &" ++ name

-- a space and the resolved tag between `<` and `>`
abbrev pub tag_part : Option (List ℕ) → List ℕ
tag_part None = []
tag_part (Some tag) = codes " <" ++ (escaped tag ++ codes ">")

abbrev pub style_sign : ScalarStyle → List ℕ
style_sign Plain = codes ":"
style_sign Single = codes "'"
style_sign Double = codes "\""
style_sign Literal = codes "|"
style_sign Folded = codes ">"

-- a part, if the test holds
abbrev pub part_if : Bool → List ℕ → List ℕ
part_if true part = part
part_if false part = []

-- the line of an event, with the resolved tag of the node that it begins
unfoldable pub event_line : EventValue → Option (List ℕ) → List ℕ
event_line stream_starts tag = codes "+STR\n"
event_line stream_ends tag = codes "-STR\n"
event_line (document_starts marked) tag = concat (codes "+DOC" ∷ part_if marked (codes " ---") ∷ codes "\n" ∷ [])
event_line (document_ends marked) tag = concat (codes "-DOC" ∷ part_if marked (codes " ...") ∷ codes "\n" ∷ [])
event_line (sequence_starts flow props) tag =
    concat (codes "+SEQ" ∷ part_if flow (codes " []") ∷ anchor_part props.anchor ∷ tag_part tag ∷ codes "\n" ∷ [])
event_line sequence_ends tag = codes "-SEQ\n"
event_line (mapping_starts flow props) tag =
    concat (codes "+MAP" ∷ part_if flow (codes " {}") ∷ anchor_part props.anchor ∷ tag_part tag ∷ codes "\n" ∷ [])
event_line mapping_ends tag = codes "-MAP\n"
event_line (scalar_node props style text) tag =
    concat (codes "=VAL" ∷ anchor_part props.anchor ∷ tag_part tag ∷ codes " " ∷ style_sign style ∷ escaped text ∷ codes "\n" ∷ [])
event_line (alias_node name) tag = concat (codes "=ALI *" ∷ name ∷ codes "\n" ∷ [])

-- events, each with its resolved tag
unfoldable pub notation : List (EventValue × Option (List ℕ)) → List ℕ
notation events = flat_map (λ e. event_line e.0 e.1) events

-- the notation of a reading's events
unfoldable pub notation_of : Lists → List ℕ
notation_of r = notation (zip (events_of r) r.resolved)
