-- Readings as texts have them. `Reading::build` takes lists that no text has; nothing is promised of their layout.
use Rattle.std.specs.Prelude.{◌≡◌, true, List}
use Rattle.std.specs.List.Sorted.{IsNonDecreasingBy}
use Rattle.yf_comments.specs.Comment.{CommentValue}
use Rattle.yf_events.specs.Tree.{DocumentTree, TreesOf}
use Rattle.yf_events.specs.declared.lists.Lists.{Lists}
use Rattle.yf_forms.specs.NormalForms.Forms.{documents_are_placed}

-- the comments are in the order of the text
abbrev pub CommentsAscend : Lists → Type 0
CommentsAscend r = IsNonDecreasingBy (λ (c : CommentValue). c.offset) r.comments

-- the conditions for the normal form of a reading: it has trees, a leaf has a span if and only if it has characters,
-- and the comments are in order
pub record IsTextual (r : Lists) : Type 0 where
  pub trees : List DocumentTree
  pub of_reading : TreesOf r trees
  pub placed : documents_are_placed trees ≡ true
  pub comments : CommentsAscend r
