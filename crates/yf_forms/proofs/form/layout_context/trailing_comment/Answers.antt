use Rattle.std.proofs.Common.{map, None, refl, subst}
use Rattle.yf_comments.specs.Comment.{CommentValue}
use Rattle.yf_forms.specs.Passes.DecidePass.{is_leaf_at, leaf_start}
use Rattle.yf_forms.specs.Passes.Searches.{trail_limit, HalvesAfter}
use Rattle.yf_forms.proofs.Decide.SearchLemmas.{begins_in_comments, halves_in_comments, kept_picked, leaf_picked, none_picked}
use Rattle.yf_forms.proofs.form.layout_context.trailing_comment.Goals as goal

pub comment_before-requires : goal.comment_before-requires
comment_before-requires c = begins_in_comments c.comments.result.now c.args.reading.now.comments c.args.near.now c.comments.ensures c.requires

pub comment_before-requires-then-measure : goal.comment_before-requires-then-measure
comment_before-requires-then-measure c = begins_in_comments c.comments-then-measure.result.now c.args.reading.now.comments c.args.near.now c.comments-then-measure.ensures c.requires

pub returns-then-is_leaf-clause-ends : goal.returns-then-is_leaf-clause-ends
returns-then-is_leaf-clause-ends c =
    halves_in_comments c.comments.result.now c.args.reading.now.comments c.args.start c.leaf_start-to.result
    (trail_limit c.args.reading.now.events c.args.i c.args.measure.now) c.comment_before.result c.comments.ensures
    (leaf_picked c.is_leaf.result (is_leaf_at c.args.i c.args.measure.now.first_leaf) c.args.measure.now.can_be_kept _ _ c.is_leaf.ensures c.if-is_leaf.true
    c.leaf_start-to.ensures) c.comment_before.ensures.ends

pub returns-then-measure-clause-ends : goal.returns-then-measure-clause-ends
returns-then-measure-clause-ends c =
    halves_in_comments c.comments-then-measure.result.now c.args.reading.now.comments c.args.start c.leaf_start-to.result
    (trail_limit c.args.reading.now.events c.args.i c.args.measure.now) c.comment_before-then-measure.result c.comments-then-measure.ensures
    (kept_picked (is_leaf_at c.args.i c.args.measure.now.first_leaf) c.args.measure.now.can_be_kept _ _ c.if-measure.true c.leaf_start-to.ensures)
    c.comment_before-then-measure.ensures.ends

pub returns-clause-ends : goal.returns-clause-ends
returns-clause-ends c =
    subst (λ t. HalvesAfter (map (λ (x : CommentValue). x.offset) c.args.reading.now.comments) c.args.start t None)
    (none_picked c.is_leaf.result (is_leaf_at c.args.i c.args.measure.now.first_leaf) c.args.measure.now.can_be_kept
    (leaf_start c.args.reading.now.events c.args.measure.now.first_leaf) c.is_leaf.ensures c.if-is_leaf.false c.if-measure.false) refl
