-- The start of a node's content, after its properties (YAML 1.2.2, section 6.9).
use Rattle.std.specs.Prelude.{ℕ, suc, min, ◌+◌, ◌-◌, ◌==◌, if◌then◌else◌, Bool, true, false, List, [], ◌∷◌, Option, Some, None, length, take, drop}
use Rattle.yf_chars.specs.Class.{is_break_char, is_white}
use Rattle.yf_chars.specs.Text.{code}
use Rattle.yf_events.specs.declared.event.Span.{Span}
use Rattle.yf_props.specs.Props.{PropsValue, TagValue, IsVerbatim, IsShort, IsNonSpecific}

-- the number of bytes of an anchor and a tag
abbrev pub anchor_len : Option (List ℕ) → ℕ
anchor_len None = 0
anchor_len (Some name) = length name + 1

abbrev pub tag_len : Option TagValue → ℕ
tag_len None = 0
tag_len (Some (IsVerbatim name)) = length name + 3
tag_len (Some (IsShort handle suffix)) = length handle + length suffix
tag_len (Some IsNonSpecific) = 1

-- the number of bytes of the property that begins with this character, an anchor with `&` and a tag with `!`, or 0
abbrev pub written_len : ℕ → PropsValue → ℕ
written_len c props = if c == 38 then anchor_len props.anchor else (if c == 33 then tag_len props.tag else 0)

-- the number of bytes of the property at the offset, which ends at the end of the text at the latest
unfoldable pub property_len : List ℕ → ℕ → PropsValue → ℕ
property_len t i props = min (written_len (code t i) props) (length t - i)

-- the number of bytes of white space, line breaks and comments at the head of a list, which may begin in a comment
unfoldable pub gap_len : Bool → List ℕ → ℕ
gap_len in_comment [] = 0
gap_len in_comment (b ∷ bs) =
    if is_break_char b then suc (gap_len false bs) else
    (if in_comment then suc (gap_len true bs) else
    (if is_white b then suc (gap_len false bs) else
    (if b == 35 then suc (gap_len true bs) else 0)))

-- the offset after the white space, line breaks and comments at an offset, but not past the end of a part of the text
unfoldable pub past_gap : List ℕ → ℕ → ℕ → ℕ
past_gap t i end = i + gap_len false (drop i (take end t))

-- the offset after one property and the separation after it: another property begins there, or the content
unfoldable pub past_second : List ℕ → ℕ → ℕ → PropsValue → ℕ
past_second t i end props = if property_len t i props == 0 then i else past_gap t (i + property_len t i props) end

-- the start of the content of a node with this part of the text and these properties
unfoldable pub content_start : List ℕ → Span → PropsValue → ℕ
content_start t s props =
    if property_len t s.start props == 0 then s.start else past_second t (past_gap t (s.start + property_len t s.start props) s.end) s.end props
