-- The `?` of an entry of a mapping. An index counts events from 0.
use Rattle.std.specs.Prelude.{◌≡◌, ℕ, ◌+◌, true, List, slice_get, Some}
use Rattle.yf_chars.specs.Class.{is_white_or_end}
use Rattle.yf_chars.specs.Text.{code}
use Rattle.yf_events.specs.Reading.{entries_of}
use Rattle.yf_events.specs.declared.event.Entry.{Entry}
use Rattle.yf_events.specs.declared.lists.Lists.{Lists}

-- a `?` is at the offset, and white space, a break or the end of the text follows it; otherwise `?` begins a plain
-- scalar
pub record HasQuestionMark (t : List ℕ) (offset : ℕ) : Type 0 where
  pub sign : code t offset ≡ 63
  pub white : is_white_or_end (code t (offset + 1)) ≡ true

-- the event of the index i begins an entry with a `?`, at the offset
pub data IsMarked (t : List ℕ) (r : Lists) (i : ℕ) : ℕ → Type 0 where
  marked : {entry : Entry} → slice_get (entries_of r) i ≡ Some (Some entry) → HasQuestionMark t entry.start → IsMarked t r i entry.start
