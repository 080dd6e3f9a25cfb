-- The last comment so far, and the rest, have the result of all.
use Rattle.std.proofs.Common.{◌≡◌, drop, map}
use Rattle.yf_comments.specs.Comment.{comment_value}
use Rattle.yf_problems.specs.Folds.{row_last}
use Rattle.yf_problems.proofs.comment_rows.row_last.Given as goal

abbrev pub invariant-loop-comment : goal.invariant-loop-comment
invariant-loop-comment l = row_last l.text (comment_value l.last) (map comment_value (drop l.comment-index l.rest))
    ≡ row_last l.text (comment_value l.first) (map comment_value l.rest)
