use Rattle.std.proofs.Common.{arith}
use Rattle.yf_flow.specs.NodeStarts.{plain_missing}
use Rattle.yf_flow.proofs.Content.BegunLemmas.{plain_leaf}
use Rattle.yf_flow.proofs.nodes.plain_ending.Goals as goal

pub returns-in_ok-push_scalar-in-Some : goal.returns-in_ok-push_scalar-in-Some
returns-in_ok-push_scalar-in-Some c =
    let r = rw c.in-Some.is at c.in_ok-text.ensures.reads in
    let p = c.in_ok-push_scalar-in-Some.ensures in
    record {
      exact = plain_leaf _ r.0 c.requires.other r.1 r.2 p.pushed p.comments p.escapes;
      begun = (rw c.in-Some.is at c.in_ok-text.ensures.place, omega (arith, p.found));
      grows = omega (arith, p.found);
      escapes = rw p.escapes c.requires.awaited.escapes;
    }

pub returns-in-None : goal.returns-in-None
returns-in-None c = record {
  exact = λ e. plain_missing c.requires.other (rw c.in-None.is at c.in_ok-text.ensures.reads);
  begun = tt;
  grows = omega arith;
  escapes = c.requires.awaited.escapes;
}
