-- The laws of streams and of readings, each under a plain sentence: a text is derived as at most one stream, and has at
-- most one reading. `proofs/LawsHold.antt` proves them, so a change of the definitions that breaks one is refused
-- there.
use Rattle.std.specs.Prelude.{◌≡◌, ℕ, ◌<◌, ◌≤◌, List, length}
use Rattle.std.specs.List.{All}
use Rattle.std.specs.List.Sorted.{IsNonDecreasingBy}
use Rattle.std.specs.Str.{IsUtf8}
use Rattle.yf_comments.specs.Comment.{CommentValue}
use Rattle.yf_lines.specs.declared.fault.Fault.{Fault}
use Rattle.yf_lines.specs.declared.fault.Fault.TheVariants.{Memory}
use Rattle.yf_events.specs.declared.lists.Lists.{Lists}
use Rattle.yf_events.specs.declared.reading.TheConstants.{DEPTH}
use Rattle.yf_stream.specs.ReadingOf.{ReadingOf}
use Rattle.yf_stream.specs.Stream.{Documents, Stream}
use Rattle.yf_stream.specs.StreamReader.{StreamFault, TheReading}
use Rattle.yf_stream.specs.WellFormed.{Shapes}

-- All derivations of a text as a stream within the limit of open collections have one meaning: equal documents, with
-- equal nodes, directives and markers, and equal comments, whichever part takes them.
abbrev pub StreamsAreOne : Type 0
StreamsAreOne = (t : List ℕ) (h g : ℕ) (x y : Documents) → IsUtf8 t → Stream t h x → h ≤ DEPTH → Stream t g y → g ≤ DEPTH → y ≡ x

-- So each stream that is derived from a text within the limit is its one shape.
abbrev pub DerivedStreamsAreShapes : Type 0
DerivedStreamsAreShapes = (t : List ℕ) (h : ℕ) (x : Documents) → IsUtf8 t → Stream t h x → h ≤ DEPTH → Shapes t x

-- A text has at most one reading, with all its lists and notes.
abbrev pub ReadingsAreOne : Type 0
ReadingsAreOne = (t : List ℕ) (r s : Lists) → ReadingOf t r → ReadingOf t s → s ≡ r

-- So each reading of a text is the one that the reader of streams may return.
abbrev pub ReadingsAreTheReading : Type 0
ReadingsAreTheReading = (t : List ℕ) (r : Lists) → ReadingOf t r → TheReading t r

-- A text that has a reading may be refused only for want of memory.
abbrev pub ReadTextsHaveNoFault : Type 0
ReadTextsHaveNoFault = (t : List ℕ) (r : Lists) (fault : Fault) → ReadingOf t r → StreamFault t fault → fault ≡ Memory

-- The comments of a reading are in text order.
abbrev pub CommentsOfReadingsAscend : Type 0
CommentsOfReadingsAscend = (t : List ℕ) (r : Lists) → ReadingOf t r → IsNonDecreasingBy (λ (c : CommentValue). c.offset) r.comments

-- Each of them begins within the text.
abbrev pub CommentsOfReadingsAreWithin : Type 0
CommentsOfReadingsAreWithin = (t : List ℕ) (r : Lists) → ReadingOf t r → All (λ (c : CommentValue). c.offset < length t) r.comments
