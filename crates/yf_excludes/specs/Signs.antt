-- The bytes that have a meaning in patterns and paths.
use Rattle.std.specs.Prelude.{ℕ}

abbrev pub EXCLAMATION : ℕ
EXCLAMATION = 33

abbrev pub STAR : ℕ
STAR = 42

abbrev pub DASH : ℕ
DASH = 45

abbrev pub DOT : ℕ
DOT = 46

abbrev pub SLASH : ℕ
SLASH = 47

abbrev pub COLON : ℕ
COLON = 58

abbrev pub QUESTION : ℕ
QUESTION = 63

abbrev pub LEFT_BRACKET : ℕ
LEFT_BRACKET = 91

abbrev pub BACKSLASH : ℕ
BACKSLASH = 92

abbrev pub RIGHT_BRACKET : ℕ
RIGHT_BRACKET = 93

abbrev pub CARET : ℕ
CARET = 94
