use Rattle.std.proofs.Common.{◌≡◌, ◌+◌, ◌-◌, drop, length, map}
use Rattle.yf_comments.specs.Comment.{comment_value}
use Rattle.yf_forms.specs.Passes.Searches.{count_to}
use Rattle.yf_forms.proofs.form.comments_before.first_after.Given as goal

abbrev pub invariant-loop-k : goal.invariant-loop-k
invariant-loop-k l =
    l.k + count_to l.offset (drop l.k (map comment_value l.comments)) ≡ l.from + count_to l.offset (drop l.from (map comment_value l.comments))

abbrev pub decreases-loop-k : goal.decreases-loop-k
decreases-loop-k l = length l.comments - l.k
