-- A comment as contracts see it: its bytes, its offset and its note, but not the address of its text.
use Rattle.std.specs.Prelude.{ℕ, Bool, List, [], ◌∷◌, Option, Some, None}
use Rattle.yf_comments.specs.declared.comment.Comment.{Comment}

pub record CommentValue : Type 0 where
  pub text : List ℕ
  pub offset : ℕ
  pub blank_before : Bool

abbrev pub comment_value : Comment → CommentValue
comment_value c = record { text = c.text.now; offset = c.offset; blank_before = c.blank_before }

-- the comments of a line, at most one
abbrev pub row_comments : Option Comment → List CommentValue
row_comments None = []
row_comments (Some c) = comment_value c ∷ []
