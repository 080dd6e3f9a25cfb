-- The character classes of YAML 1.2.2, chapter 5 (and 6.9, 7.3 for names, tags and plain scalars), as tests of a
-- character's code. No class contains 0x110000, which means "no character" (`code` of `Text`).
use Rattle.std.specs.Prelude.{ℕ, Bool, false, ◌==◌, nat_le, not, ◌&&◌, ◌||◌}
use Rattle.yf_chars.specs.Text.{no_char}
use Rattle.yf_chars.specs.Signs.{AMPERSAND, ASTERISK, AT_SIGN, BACKTICK, BAR, BYTE_ORDER_MARK, CARRIAGE_RETURN, COLON, COMMA, DASH, DOLLAR, DOT, DOUBLE_QUOTE, EQUALS, EXCLAMATION, GREATER, LEFT_BRACE, LEFT_BRACKET, LEFT_PARENTHESIS, LINE_FEED, NUMBER_SIGN, PERCENT, PLUS, QUESTION, RIGHT_BRACE, RIGHT_BRACKET, RIGHT_PARENTHESIS, SEMICOLON, SINGLE_QUOTE, SLASH, SPACE, TAB, TILDE, UNDERSCORE}
use Rattle.yf_chars.specs.declared.context.Ctx.{Ctx}
use Rattle.yf_chars.specs.declared.context.Ctx.TheVariants.{BlockOut, BlockIn, FlowOut, FlowIn, BlockKey, FlowKey}

-- the codes from the first to the last
unfoldable pub is_between : ℕ → ℕ → ℕ → Bool
is_between low high c = nat_le low c && nat_le c high

-- c-printable
unfoldable pub is_printable : ℕ → Bool
is_printable c = (c == TAB) || (c == LINE_FEED) || (c == CARRIAGE_RETURN) || is_between 0x20 0x7E c || (c == 0x85)
    || is_between 0xA0 0xD7FF c || is_between 0xE000 0xFFFD c || is_between 0x10000 0x10FFFF c

-- nb-json
unfoldable pub is_nb_json : ℕ → Bool
is_nb_json c = (c == TAB) || is_between 0x20 0x10FFFF c

-- b-char: a character of a line break
unfoldable pub is_break_char : ℕ → Bool
is_break_char c = (c == LINE_FEED) || (c == CARRIAGE_RETURN)

-- nb-char: printable, but neither a line break nor a byte order mark
unfoldable pub is_nb_char : ℕ → Bool
is_nb_char c = is_printable c && (not (is_break_char c) && not (c == BYTE_ORDER_MARK))

-- s-white: space or tab
unfoldable pub is_white : ℕ → Bool
is_white c = (c == SPACE) || (c == TAB)

-- ns-char
unfoldable pub is_ns_char : ℕ → Bool
is_ns_char c = is_nb_char c && not (is_white c)

-- c-flow-indicator: , [ ] { }
unfoldable pub is_flow_indicator : ℕ → Bool
is_flow_indicator c = (c == COMMA) || (c == LEFT_BRACKET) || (c == RIGHT_BRACKET) || (c == LEFT_BRACE) || (c == RIGHT_BRACE)

-- c-indicator: - ? : , [ ] { } # & * ! | > ' " % @ and the backquote
unfoldable pub is_indicator : ℕ → Bool
is_indicator c = is_flow_indicator c || (c == DASH) || (c == QUESTION) || (c == COLON) || (c == NUMBER_SIGN) || (c == AMPERSAND) || (c == ASTERISK)
    || (c == EXCLAMATION) || (c == BAR) || (c == GREATER) || (c == SINGLE_QUOTE) || (c == DOUBLE_QUOTE) || (c == PERCENT) || (c == AT_SIGN) || (c == BACKTICK)

-- ns-dec-digit
unfoldable pub is_digit : ℕ → Bool
is_digit c = is_between 48 57 c

-- ns-hex-digit
unfoldable pub is_hex_digit : ℕ → Bool
is_hex_digit c = is_digit c || is_between 65 70 c || is_between 97 102 c

-- ns-word-char: a digit, an ASCII letter or -
unfoldable pub is_word_char : ℕ → Bool
is_word_char c = is_digit c || is_between 65 90 c || is_between 97 122 c || (c == DASH)

-- ns-uri-char as a single character; % is not one, since it begins an escape of three characters
-- word characters and # ; / ? : @ & = + $ , _ . ! ~ * ' ( ) [ ]
unfoldable pub is_uri_char : ℕ → Bool
is_uri_char c = is_word_char c || (c == NUMBER_SIGN) || (c == SEMICOLON) || (c == SLASH) || (c == QUESTION) || (c == COLON) || (c == AT_SIGN) || (c == AMPERSAND)
    || (c == EQUALS) || (c == PLUS) || (c == DOLLAR) || (c == COMMA) || (c == UNDERSCORE) || (c == DOT) || (c == EXCLAMATION) || (c == TILDE) || (c == ASTERISK)
    || (c == SINGLE_QUOTE) || (c == LEFT_PARENTHESIS) || (c == RIGHT_PARENTHESIS) || (c == LEFT_BRACKET) || (c == RIGHT_BRACKET)

-- ns-tag-char as a single character: ns-uri-char without ! and the flow indicators
unfoldable pub is_tag_char : ℕ → Bool
is_tag_char c = is_uri_char c && (not (c == EXCLAMATION) && not (is_flow_indicator c))

-- ns-anchor-char
unfoldable pub is_anchor_char : ℕ → Bool
is_anchor_char c = is_ns_char c && not (is_flow_indicator c)

-- ns-plain-safe(c); no character is plain in the two block contexts
unfoldable pub is_plain_safe : ℕ → Ctx → Bool
is_plain_safe c BlockOut = false
is_plain_safe c BlockIn = false
is_plain_safe c FlowOut = is_ns_char c
is_plain_safe c BlockKey = is_ns_char c
is_plain_safe c FlowIn = is_ns_char c && not (is_flow_indicator c)
is_plain_safe c FlowKey = is_ns_char c && not (is_flow_indicator c)

-- a character that may follow a document marker, and `-`, `?` or `:` as an indicator: white space, a break or the end
unfoldable pub is_white_or_end : ℕ → Bool
is_white_or_end c = is_white c || is_break_char c || (c == no_char)
