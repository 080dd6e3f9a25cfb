-- Laws of the texts of comments, each under a plain sentence. `proofs/Offsets/CommentTexts.antt` proves them.
use Rattle.std.specs.Prelude.{◌≡◌, ℕ, ◌+◌, List, slice_range}
use Rattle.std.specs.List.{All}
use Rattle.std.specs.Str.{IsUtf8}
use Rattle.yf_chars.specs.Chain.{Many}
use Rattle.yf_chars.specs.Class.{is_nb_char}
use Rattle.yf_chars.specs.Text.{code}
use Rattle.yf_comments.specs.Comment.{CommentValue}
use Rattle.yf_comments.specs.GapLines.{IsRemark}
use Rattle.yf_events.specs.declared.lists.Lists.{Lists}
use Rattle.yf_stream.specs.ReadingOf.{ReadingOf}

-- the comment's text is at its offset: # and characters that break no line
pub record IsCommentAt (t : List ℕ) (c : CommentValue) : Type 0 where
  pub end : ℕ
  pub characters : List ℕ
  pub sign : code t c.offset ≡ 35
  pub chain : Many t is_nb_char (c.offset + 1) end characters
  pub text : c.text ≡ slice_range t c.offset end

-- Each comment of a reading is a comment of the text: it begins with #, has no line break, and is the text at its
-- offset.
abbrev pub CommentsOfReadingsAreTexts : Type 0
CommentsOfReadingsAreTexts = (t : List ℕ) (r : Lists) → ReadingOf t r → All (IsCommentAt t) r.comments

-- So each can be written on a line of its own: its text is # and further characters of a line.
abbrev pub CommentsOfReadingsAreRemarks : Type 0
CommentsOfReadingsAreRemarks = (t : List ℕ) (r : Lists) → IsUtf8 t → ReadingOf t r → All (λ (c : CommentValue). IsRemark c.text) r.comments
