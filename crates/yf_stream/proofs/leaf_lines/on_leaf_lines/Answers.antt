use Rattle.std.proofs.Common.{◌≡◌, Some, slice_get, subst, arith}
use Rattle.yf_comments.specs.Comment.{comment_value}
use Rattle.yf_stream.proofs.LeafPass.LeafLemmas.{all_noted, noted_nothing, noted_on}
use Rattle.yf_stream.proofs.leaf_lines.on_leaf_lines.Goals as goal

pub comments-init : goal.comments-init
comments-init c = noted_nothing c.args.text.now c.args.events.now c.args.comments.now c.requires

pub comments-preserved : goal.comments-preserved
comments-preserved c =
    let here = subst (λ z. slice_get c.args.comments.now z ≡ Some (comment_value c.at-comment.result.now)) c.len-in-comments-2.ensures c.at-comment.ensures in
    noted_on c.comments.invariant here c.leaves_before-seen.ensures.passed c.leaves_before-seen.ensures.stops c.ends_on_line.ensures c.in_ok-push.ensures

pub returns-clause-notes : goal.returns-clause-notes
returns-clause-notes c = all_noted c.comments.invariant (omega (arith, c.len.ensures, c.len-in-comments.ensures, c.comments-test.false))
