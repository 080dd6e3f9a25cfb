-- Faults within single lines. An index counts lines from 0.
use Rattle.std.specs.Prelude.{◌≡◌, ℕ, ◌<◌, Bool, false, List, length, slice_get, Some}
use Rattle.yf_chars.specs.Chain.{Many}
use Rattle.yf_events.specs.declared.lists.Lists.{Lists}
use Rattle.yf_lines.specs.declared.line.Line.{Line}
use Rattle.yf_lines.specs.Lines.{Table, Marks, is_char}
use Rattle.yf_rule_sets.specs.RuleSets.Scalars.{ContentLine}
use Rattle.yf_rule_sets.specs.RuleSets.Whites.{WhitesEnd}

-- white space ends the line, and begins at the offset
pub data BlankEnd (src : Table) (k : ℕ) : Bool → ℕ → Type 0 where
  at_line_end : {l : Line} {o : ℕ} → slice_get src.lines k ≡ Some l → WhitesEnd src.text l.start l.end o → o < l.end
      → BlankEnd src k false o

-- trailing-blanks: the first of the white space that ends a line, except on content lines of block scalars
pub data TrailingBlank (src : Table) (r : Lists) (k : ℕ) : ℕ → Type 0 where
  trailing : {o : ℕ} → BlankEnd src k false o → ((i : ℕ) → ContentLine src r k i → ⊥) → TrailingBlank src r k o

-- the offset is `count` characters after `start`, and before `end`
pub record IsAfterChars (t : List ℕ) (start end count offset : ℕ) : Type 0 where
  pub characters : List ℕ
  pub run : Many t is_char start offset characters
  pub many : length characters ≡ count
  pub before : offset < end

-- line-length: the character of a line after `max_line` others, without the byte order marks at the line's start
pub data BeyondLimit (src : Table) (max_line : ℕ) (k : ℕ) : ℕ → Type 0 where
  beyond : {l : Line} {start o : ℕ} → slice_get src.lines k ≡ Some l → Marks src.text l.start start
      → IsAfterChars src.text start l.end max_line o → BeyondLimit src max_line k o
