use Rattle.std.proofs.Common.{refl, arith}
use Rattle.std.proofs.lemmas.Result.{IfOk-weaker}
use Rattle.yf_flow.specs.NodeStarts.{plain_missing}
use Rattle.yf_flow.proofs.Content.BegunLemmas.{plain_leaf, leaf_begins}
use Rattle.yf_flow.proofs.node.plain_node.Goals as goal

pub returns-in-Some : goal.returns-in-Some
returns-in-Some c =
    let r = rw c.in-Some.is at c.in_ok-plain.ensures.reads in
    IfOk-weaker _ _ _
    (λ b p. leaf_begins b p (rw c.in-Some.is at c.in_ok-plain.ensures.place) refl c.requires.awaited.escapes (plain_leaf _ r.0 c.requires.other r.1 r.2 p.events p.comments p.escapes)) c.push_leaf.ensures

pub returns-in-None : goal.returns-in-None
returns-in-None c = record {
  exact = λ e. plain_missing c.requires.other (rw c.in-None.is at c.in_ok-plain.ensures.reads);
  begun = tt;
  grows = omega arith;
  escapes = c.requires.awaited.escapes;
}
