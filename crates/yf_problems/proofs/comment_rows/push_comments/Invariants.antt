-- The parts so far, and those of the rest of the comments, are all.
use Rattle.std.proofs.Common.{◌≡◌, ◌++◌, None, drop, map}
use Rattle.std.specs.Prelude.{option_map}
use Rattle.yf_comments.specs.Comment.{comment_value}
use Rattle.yf_problems.specs.Folds.{comment_parts}
use Rattle.yf_problems.proofs.comment_rows.push_comments.Given as goal

abbrev pub invariant-loop-i : goal.invariant-loop-i
invariant-loop-i l = l.parts.items
    ++ comment_parts l.text (option_map comment_value l.before) (map comment_value (drop l.i l.comments))
    ≡ l.fn.parts.items ++ comment_parts l.text None (map comment_value l.comments)
