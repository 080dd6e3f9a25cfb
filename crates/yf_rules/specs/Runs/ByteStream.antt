-- The contents of a reader or a writer, and whether it has failed; and what writing a text to it changes.
use Rattle.std.specs.Prelude.{◌≡◌, ◌⊎◌, ℕ, List, Bool, Option, Result}
use Rattle.yf_lines.specs.Output.{Wrote, Broke, TextWritten}
use Rattle.yf_lines.specs.declared.fault.Fault.{Fault}

-- A reader or a writer at a moment.
pub record ByteStream : Type 0 where
  -- the bytes that a reader has still to return, or that were written to a writer; nothing if they aren't known
  pub contents : Option (List ℕ)
  -- whether a call of it has failed
  pub failed : Bool

-- The stream of a reader or of a writer, from the ghost members for its contents and for whether it has failed.
abbrev pub stream_of : {T : Type 0} → (T → Option (List ℕ)) → (T → Bool) → T → ByteStream
stream_of contents failed value = record { contents = contents value; failed = failed value }

-- No call has failed between two moments.
abbrev pub NoFailure : ByteStream → ByteStream → Type 0
NoFailure before after = after.failed ≡ before.failed

-- The whole text was written.
abbrev pub Writes : ByteStream → ByteStream → List ℕ → Type 0
Writes before after text = Wrote before.contents after.contents before.failed after.failed text

-- The writer has failed, and a prefix of the text was written.
abbrev pub BreaksOff : ByteStream → ByteStream → List ℕ → Type 0
BreaksOff before after text = Broke before.contents after.contents after.failed text

-- The text was written, or the writer has failed after a prefix of it.
abbrev pub WrittenOrFailed : ByteStream → ByteStream → List ℕ → Type 0
WrittenOrFailed before after text = Writes before after text ⊎ BreaksOff before after text

-- Which of the two holds, by the result of a call.
abbrev pub WriteEnds : ByteStream → ByteStream → List ℕ → Result Unit Fault → Type 0
WriteEnds before after text outcome = TextWritten before.contents after.contents before.failed after.failed text outcome

-- Nothing was written, and no call has failed.
pub record NothingWritten (before after : ByteStream) : Type 0 where
  pub contents : after.contents ≡ before.contents
  pub same : NoFailure before after
