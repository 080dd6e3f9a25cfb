-- Names of the characters that have a special meaning; a text is a list of such numbers.
use Rattle.std.specs.Prelude.{ℕ}

-- a tab
abbrev pub TAB : ℕ
TAB = 9

-- LF
abbrev pub LINE_FEED : ℕ
LINE_FEED = 10

-- CR
abbrev pub CARRIAGE_RETURN : ℕ
CARRIAGE_RETURN = 13

-- a space
abbrev pub SPACE : ℕ
SPACE = 32

-- `!`
abbrev pub EXCLAMATION : ℕ
EXCLAMATION = 33

-- `"`
abbrev pub DOUBLE_QUOTE : ℕ
DOUBLE_QUOTE = 34

-- `#`
abbrev pub NUMBER_SIGN : ℕ
NUMBER_SIGN = 35

-- `$`
abbrev pub DOLLAR : ℕ
DOLLAR = 36

-- `%`
abbrev pub PERCENT : ℕ
PERCENT = 37

-- `&`
abbrev pub AMPERSAND : ℕ
AMPERSAND = 38

-- `'`
abbrev pub SINGLE_QUOTE : ℕ
SINGLE_QUOTE = 39

-- `(`
abbrev pub LEFT_PARENTHESIS : ℕ
LEFT_PARENTHESIS = 40

-- `)`
abbrev pub RIGHT_PARENTHESIS : ℕ
RIGHT_PARENTHESIS = 41

-- `*`
abbrev pub ASTERISK : ℕ
ASTERISK = 42

-- `+`
abbrev pub PLUS : ℕ
PLUS = 43

-- `,`
abbrev pub COMMA : ℕ
COMMA = 44

-- `-`
abbrev pub DASH : ℕ
DASH = 45

-- `.`
abbrev pub DOT : ℕ
DOT = 46

-- `/`
abbrev pub SLASH : ℕ
SLASH = 47

-- `:`
abbrev pub COLON : ℕ
COLON = 58

-- `;`
abbrev pub SEMICOLON : ℕ
SEMICOLON = 59

-- `<`
abbrev pub LESS : ℕ
LESS = 60

-- `=`
abbrev pub EQUALS : ℕ
EQUALS = 61

-- `>`
abbrev pub GREATER : ℕ
GREATER = 62

-- `?`
abbrev pub QUESTION : ℕ
QUESTION = 63

-- `@`
abbrev pub AT_SIGN : ℕ
AT_SIGN = 64

-- `[`
abbrev pub LEFT_BRACKET : ℕ
LEFT_BRACKET = 91

-- `\`
abbrev pub BACKSLASH : ℕ
BACKSLASH = 92

-- `]`
abbrev pub RIGHT_BRACKET : ℕ
RIGHT_BRACKET = 93

-- `_`
abbrev pub UNDERSCORE : ℕ
UNDERSCORE = 95

-- a backtick
abbrev pub BACKTICK : ℕ
BACKTICK = 96

-- `{`
abbrev pub LEFT_BRACE : ℕ
LEFT_BRACE = 123

-- `|`
abbrev pub BAR : ℕ
BAR = 124

-- `}`
abbrev pub RIGHT_BRACE : ℕ
RIGHT_BRACE = 125

-- `~`
abbrev pub TILDE : ℕ
TILDE = 126

-- a byte order mark
abbrev pub BYTE_ORDER_MARK : ℕ
BYTE_ORDER_MARK = 0xFEFF
