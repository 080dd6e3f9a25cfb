-- A text within one line: its characters are nb-chars, neither breaks nor byte order marks.
use Rattle.std.specs.Prelude.{◌≡◌, ℕ, ◌<◌, Bool, true, ◌==◌, ◌||◌, List, [], ◌∷◌, encode_utf8_all}
use Rattle.yf_chars.specs.Signs.{COLON, COMMA, LINE_FEED, RIGHT_BRACE, RIGHT_BRACKET, SPACE}
use Rattle.yf_chars.specs.Class.{is_nb_char}

-- the characters are nb-chars
abbrev pub AllNb : List ℕ → Type 0
AllNb [] = Unit {0}
AllNb (c ∷ cs) = (is_nb_char c ≡ true) × AllNb cs

pub record IsLineText (x : List ℕ) : Type 0 where
  pub chars : List ℕ
  pub bytes : encode_utf8_all chars ≡ x
  pub each : AllNb chars

-- the characters that may follow a name on a line: a space, a break, a comma or a closing bracket
unfoldable pub is_after_name : ℕ → Bool
is_after_name c = (c == SPACE) || (c == LINE_FEED) || (c == COMMA) || (c == RIGHT_BRACKET) || (c == RIGHT_BRACE)

-- the characters that may follow any other text: these, or a colon
unfoldable pub is_after_text : ℕ → Bool
is_after_text c = (c == COLON) || is_after_name c

-- the bytes that follow: none, or first a byte of a class
pub data Follows (p : ℕ → Bool) : List ℕ → Type 0 where
  nothing_follows : Follows p []
  byte_follows : {c : ℕ} {r : List ℕ} → c < 128 → p c ≡ true → Follows p (c ∷ r)
