-- The ends of parts of a text that begin at an offset. Offsets count bytes.
use Rattle.std.specs.Prelude.{◌≡◌, ℕ, ◌⊎◌, true, false, List, length}
use Rattle.yf_chars.specs.Chain.{Many}
use Rattle.yf_chars.specs.Class.{is_break_char, is_white}
use Rattle.yf_chars.specs.Text.{CharAt, code, no_char}
use Rattle.yf_lines.specs.Basic.{Break}
use Rattle.yf_lines.specs.Lines.{NoBreakIn, is_char}

-- white space is from `start` to `end`, and none at `end`
pub record WhiteSpan (t : List ℕ) (start end : ℕ) : Type 0 where
  pub whites : List ℕ
  pub run : Many t is_white start end whites
  pub stops : is_white (code t end) ≡ false

-- the character that begins at `start` ends at `end`; at the end of the text no character begins
pub data CharacterSpan (t : List ℕ) (start : ℕ) : ℕ → Type 0 where
  one : {c end : ℕ} → CharAt t start c end → CharacterSpan t start end
  none : code t start ≡ no_char → CharacterSpan t start start

-- the line break that begins at `start` ends at `end`; the span is empty if no break begins there
pub data BreakSpan (t : List ℕ) (start : ℕ) : ℕ → Type 0 where
  one : {end : ℕ} → Break t start end → BreakSpan t start end
  none : ((end : ℕ) → Break t start end → ⊥) → BreakSpan t start start

-- a blank line: white space, and the break after it
pub data BlankSpan (t : List ℕ) (start : ℕ) : ℕ → Type 0 where
  blank : {middle end : ℕ} → WhiteSpan t start middle → BreakSpan t middle end → BlankSpan t start end

-- the rest of a line, up to its break or the end of the text, has the given number of characters
pub record LineRest (t : List ℕ) (start end count : ℕ) : Type 0 where
  pub unbroken : NoBreakIn t start end
  pub stops : (is_break_char (code t end) ≡ true) ⊎ (end ≡ length t)
  pub characters : List ℕ
  pub run : Many t is_char start end characters
  pub many : count ≡ length characters
