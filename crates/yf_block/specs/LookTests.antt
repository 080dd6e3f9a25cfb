-- The texts that the tests of block nodes look at.
use Rattle.std.specs.Prelude.{◌≡◌, ◌≢◌, ℕ, ◌+◌, ◌-◌, Bool, true, List, length}
use Rattle.yf_chars.specs.Text.{code}
use Rattle.yf_grammar.specs.BlockReader.BlockParser.{LineText}

-- the line has nothing more but perhaps a comment, and a comment only if the flag is set
pub data LineEndsAt (t : List ℕ) (comment : Bool) (p : ℕ) : Type 0 where
  text_stops : p ≡ length t → LineEndsAt t comment p
  feed_is_at : code t p ≡ 10 → LineEndsAt t comment p
  return_is_at : code t p ≡ 13 → LineEndsAt t comment p
  hash_is_at : comment ≡ true → code t p ≡ 35 → LineEndsAt t comment p

-- the offset is not within a break of two characters
pub record NotWithinBreak (t : List ℕ) (at : ℕ) : Type 0 where
  pub apart : code t at ≡ 10 → code t (at - 1) ≢ 13

-- an entry may begin at `place`, on the line that begins at `at`
pub record EntryPlace (t : List ℕ) (at place : ℕ) : Type 0 where
  pub column : ℕ
  pub first : ℕ
  pub line : LineText t at column first
  pub is_there : place ≡ at + column
