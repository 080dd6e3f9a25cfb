-- Characters of one byte that represent themselves between quotes wherever they are: all printable ASCII characters
-- except the quote, in double quotes the backslash, and - and ., with which a document marker may begin.
use Rattle.std.specs.Prelude.{◌≡◌, ◌≢◌, ℕ, Bool, true, ◌||◌, List, Option, slice_range, encode_utf8_all}
use Rattle.yf_chars.specs.Signs.{SINGLE_QUOTE}
use Rattle.yf_chars.specs.Class.{is_between, is_nb_json}
use Rattle.yf_chars.specs.Text.{code, CharAt}
use Rattle.yf_lines.specs.Basic.{ForbiddenLine}
use Rattle.yf_chars.specs.Chain.{Chain}
use Rattle.yf_quoted.specs.Quoted.{DoubleChar, goods}
use Rattle.yf_quoted.specs.Body.{Step, DoubleBreaks}

unfoldable pub is_ordinary : ℕ → Bool
is_ordinary c = is_between 0x20 0x21 c || is_between 0x23 0x2C c || is_between 0x2F 0x5B c || is_between 0x5D 0x7E c

-- zero or more characters that represent themselves in double quotes, each after white space or none: their steps and
-- bytes
pub record Words (t : List ℕ) (i j : ℕ) : Type 0 where
  pub text : List ℕ
  pub steps : (o : Option ℕ) → Chain (Step t goods (DoubleChar t) (DoubleBreaks t o)) i j (goods text)
  pub bytes : slice_range t i j ≡ encode_utf8_all text

-- ordinary characters in single quotes; a double quote and a backslash are among them
unfoldable pub is_unquoted : ℕ → Bool
is_unquoted c = is_between 0x20 0x26 c || is_between 0x28 0x2C c || is_between 0x2F 0x7E c

-- a character that represents itself in single quotes, at which no forbidden line begins
pub record CharOfItself (t : List ℕ) (i j : ℕ) : Type 0 where
  pub json : is_nb_json (code t i) ≡ true
  pub no_quote : code t i ≢ SINGLE_QUOTE
  pub reads : CharAt t i (code t i) j
  pub allowed : ForbiddenLine t i → ⊥
