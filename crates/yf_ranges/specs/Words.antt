-- The words of messages.
use Rattle.std.specs.Prelude.{ℕ, ◌+◌, ◌/◌, ◌%◌, ◌==◌, ◌||◌, Bool, true, false, nat_le, nat_lt, if◌then◌else◌, List, [], ◌∷◌, ◌++◌, codes, decimal, encode_utf8, Option, Some, None}
use Rattle.yf_ranges.specs.declared.detail.Message.{Message}
use Rattle.yf_ranges.specs.declared.detail.Message.TheVariants as Says
use Rattle.yf_events.specs.declared.event.ScalarStyle.{ScalarStyle}
use Rattle.yf_events.specs.declared.event.ScalarStyle.TheVariants.{Plain, Single, Double, Literal, Folded}

abbrev pub style_words : ScalarStyle → List ℕ
style_words Plain = codes "plain style"
style_words Single = codes "single quotes"
style_words Double = codes "double quotes"
style_words Literal = codes "literal style"
style_words Folded = codes "folded style"

abbrev pub quote_words : ScalarStyle → ScalarStyle → List ℕ
quote_words found expected = style_words found ++ codes ", expected " ++ style_words expected

abbrev pub expected_words : ℕ → List ℕ
expected_words expected = codes ", expected " ++ decimal expected

abbrev pub indent_words : ℕ → ℕ → List ℕ
indent_words found expected = codes "indented by " ++ decimal found ++ expected_words expected

abbrev pub space_words : ℕ → List ℕ
space_words n = if n == 0 then codes "no space" else (if n == 1 then codes "one space" else decimal n ++ codes " spaces")

abbrev pub comment_words : ℕ → Bool → List ℕ
comment_words found true = codes "a tab before the comment, expected 2 spaces"
comment_words found false = space_words found ++ codes " before the comment, expected 2"

abbrev pub length_words : ℕ → ℕ → List ℕ
length_words limit over = codes "longer than " ++ decimal limit ++ codes " columns (by " ++ decimal over ++ codes ")"

abbrev pub long_words : ℕ → List ℕ
long_words limit = codes "too long for one line of " ++ decimal limit ++ codes " columns, expected block style"

-- a space or a tab
abbrev pub is_gap : Option ℕ → Bool
is_gap None = false
is_gap (Some b) = (b == 32) || (b == 9)

abbrev pub marked_words : ℕ → List ℕ
marked_words b = codes "`" ++ encode_utf8 b ++ codes "`"

abbrev pub sign_words : ℕ → List ℕ
sign_words b =
    if b == 32 then codes "a space" else
    (if b == 9 then codes "a tab" else (if nat_lt b 33 then codes "a character" else (if nat_lt 126 b then codes "a character" else marked_words b)))

abbrev pub byte_words : Option ℕ → List ℕ
byte_words None = codes "nothing"
byte_words (Some b) = sign_words b

abbrev pub found_words : Option ℕ → Option ℕ → List ℕ
found_words found expected =
    if is_gap found then byte_words found else (if is_gap expected then codes "no space" else byte_words found)

abbrev pub wanted_words : Option ℕ → Option ℕ → List ℕ
wanted_words found expected =
    if is_gap found then (if is_gap expected then byte_words expected else codes "none") else
    (if is_gap expected then codes "one" else byte_words expected)

abbrev pub place_words : Option ℕ → Option ℕ → Option ℕ → List ℕ
place_words after found expected = found_words found expected ++ codes " after " ++ byte_words after

abbrev pub flow_words : Option ℕ → Option ℕ → Option ℕ → List ℕ
flow_words after found expected = place_words after found expected ++ codes ", expected " ++ wanted_words found expected

abbrev pub break_words : Bool → List ℕ
break_words true = codes "line ends with CR LF, expected LF"
break_words false = codes "line ends with CR, expected LF"

-- a hexadecimal digit in upper case
abbrev pub digit : ℕ → List ℕ
digit n = (if nat_lt n 10 then 48 + n else 55 + n) ∷ []

-- a digit of a number that is as large as its place, or none
unfoldable pub leading_digit : ℕ → ℕ → List ℕ
leading_digit place n = if nat_le place n then digit (n / place % 16) else []

-- the last four digits of a number
unfoldable pub four_digits : ℕ → List ℕ
four_digits n = digit (n / 0x1000 % 16) ++ digit (n / 0x100 % 16) ++ digit (n / 16 % 16) ++ digit (n % 16)

-- a number in hexadecimal digits: at least four, and no further zero before them
abbrev pub code_digits : ℕ → List ℕ
code_digits n = leading_digit 0x100000 n ++ leading_digit 0x10000 n ++ four_digits n

unfoldable pub hidden_lead : List ℕ
hidden_lead = codes "hidden character U+"

abbrev pub hidden_words : ℕ → List ℕ
hidden_words c = hidden_lead ++ code_digits c

-- the words of messages without values
abbrev pub fixed_words : Message → List ℕ
fixed_words Says.TrailingBlanks = codes "white space at the end of the line"
fixed_words Says.Indentation = codes "indentation differs from the house style"
fixed_words Says.Quoting = codes "scalar style differs from the house style"
fixed_words Says.NoMarker = codes "no `---` before the document"
fixed_words Says.TextAfterMarker = codes "text after `---`, expected on the next line"
fixed_words Says.NoFinalBreak = codes "no line break at the end of the text"
fixed_words Says.ByteOrderMark = codes "byte order mark outside scalars"
fixed_words Says.BlankLine = codes "needless blank line"
fixed_words Says.FlowLayout = codes "brackets are not laid out as in the house style"
fixed_words Says.FlowStyle = codes "flow style, expected block style"
fixed_words Says.BrokenFlow = codes "over several lines, expected one line"
fixed_words Says.RepeatedKey = codes "the mapping already has this key"
fixed_words Says.KeyMark = codes "`?` before a key that needs none"
fixed_words _ = []

-- the words of a message
abbrev pub message_words : Message → List ℕ
message_words (Says.Quotes found expected) = quote_words found expected
message_words (Says.Indented found expected) = indent_words found expected
message_words (Says.CarriageReturn has_feed) = break_words has_feed
message_words (Says.CommentSpace found has_tab) = comment_words found has_tab
message_words (Says.LineLength limit over) = length_words limit over
message_words (Says.HiddenCharacter c) = hidden_words c
message_words (Says.LongFlow limit) = long_words limit
message_words (Says.FlowText after found expected) = flow_words after found expected
message_words m = fixed_words m
