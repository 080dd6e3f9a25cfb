use Rattle.std.proofs.Common.{refl, sym, subst}
use Rattle.yf_stream.proofs.Reader.PrefixLemmas.{KeptUpto, kept_first, kept_next}
use Rattle.yf_stream.proofs.between.keep_comments.Goals as goal

pub loop-comment-init : goal.loop-comment-init
loop-comment-init c =
    let before = c.args.parts.now.part.comments in
    record { kept = subst (λ z. KeptUpto c.args.text.now c.args.floor c.args.comments.now before before z) (sym c.as_slice-comment-items.ensures) (kept_first c.args.text.now c.args.floor c.args.comments.now before); escapes = refl; documents = refl; events = refl }

pub loop-comment-preserved : goal.loop-comment-preserved
loop-comment-preserved c = record {
  kept = kept_next c.as_slice-comment-items.result.now c.loop-comment.comment-index _ c.is_blank_after.result c.loop-comment-test.true (record { since = c.is_blank_after.ensures.noted }) c.loop-comment.invariant.kept c.in_ok-push.ensures;
  escapes = c.loop-comment.invariant.escapes;
  documents = c.loop-comment.invariant.documents;
  events = c.loop-comment.invariant.events;
}
