-- Laws of the offsets of a reading's parts, each under a plain sentence. `proofs/PlaceLawsHold.antt` proves them.
use Rattle.std.specs.Prelude.{◌≡◌, ℕ, ◌<◌, List, length, slice_index_or}
use Rattle.yf_chars.specs.Text.{code}
use Rattle.yf_comments.specs.Comment.{CommentValue}
use Rattle.yf_events.specs.WellPlaced.{WellPlaced}
use Rattle.yf_events.specs.declared.lists.Lists.{Lists}
use Rattle.yf_stream.specs.ReadingOf.{ReadingOf}

-- No two comments of a reading begin at one offset: each begins after the one before it.
abbrev pub CommentsOfReadingsAscendStrictly : Type 0
CommentsOfReadingsAscendStrictly = (t : List ℕ) (r : Lists) → ReadingOf t r → (i j : ℕ) (d : CommentValue) → i < j
    → j < length r.comments → (slice_index_or r.comments i d).offset < (slice_index_or r.comments j d).offset

-- The events of a reading have only the spans and lines of its trees, and the list of documents has one for each that
-- begins.
abbrev pub ReadingsAreWellPlaced : Type 0
ReadingsAreWellPlaced = (t : List ℕ) (r : Lists) → ReadingOf t r → WellPlaced r

-- Each comment of a reading begins with its sign, #.
abbrev pub CommentsOfReadingsHaveSigns : Type 0
CommentsOfReadingsHaveSigns = (t : List ℕ) (r : Lists) → ReadingOf t r → (k : ℕ) (d : CommentValue) → k < length r.comments
    → code t (slice_index_or r.comments k d).offset ≡ 35
