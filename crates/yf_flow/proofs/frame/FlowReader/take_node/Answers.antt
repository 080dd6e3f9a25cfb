use Rattle.std.proofs.Common.{arith}
use Rattle.yf_flow.proofs.Ends.Frames.{frames_pushed}
use Rattle.yf_flow.proofs.Stack.TiedBegun.{missing_fails}
use Rattle.yf_flow.proofs.Stack.TiedClose.{popped}
use Rattle.yf_flow.proofs.Stack.TiedTaken.{taken_leaf, taken_opened, taken_full}
use Rattle.yf_flow.proofs.Stack.CountLemmas.{moved, counted_more, leaf_counted, opened_counted, full_counted}
use Rattle.yf_flow.proofs.frame.FlowReader.take_node.Goals as goal

pub returns-in-Leaf-clause-tied : goal.returns-in-Leaf-clause-tied
returns-in-Leaf-clause-tied c = λ base r a. taken_leaf r a c.entry_begun-entry.ensures (rw c.in-Leaf.is at c.in_ok-node.ensures.exact)

pub returns-in_ok-push-in-Opened-clause-tied : goal.returns-in_ok-push-in-Opened-clause-tied
returns-in_ok-push-in-Opened-clause-tied c = λ base r a.
    taken_opened r a c.entry_begun-entry.ensures (rw c.in-Opened.is at c.in_ok-node.ensures.exact) (popped _ _ c.args.self.now.top c.in_ok-push-in-Opened.ensures.ok)

pub returns-in_ok-push-in-Opened-clause-ready : goal.returns-in_ok-push-in-Opened-clause-ready
returns-in_ok-push-in-Opened-clause-ready c =
    let b = rw c.in-Opened.is at c.in_ok-node.ensures.begun in
    let q = c.requires.standing.innermost in
    record {
      below = frames_pushed _ _ _ _ _ c.in_ok-push-in-Opened.ensures.ok c.in_ok-node.ensures.grows c.requires.standing.others (record { event = omega (arith, b.2, q.event); entry = omega (arith, b.2, q.entry); place = q.place });
      step = (record { boundary = b.0.boundary; order = omega (arith, b.0.order) }, b.1);
    }

pub returns-in-Nothing-clause-tied : goal.returns-in-Nothing-clause-tied
returns-in-Nothing-clause-tied c = λ base r a. missing_fails a (rw c.in-Nothing.is at c.in_ok-node.ensures.exact)

pub returns-in-TooDeep-clause-tied : goal.returns-in-TooDeep-clause-tied
returns-in-TooDeep-clause-tied c = λ base r a. taken_full r a (rw c.in-TooDeep.is at c.in_ok-node.ensures.exact)

pub returns-in-Leaf-clause-counted : goal.returns-in-Leaf-clause-counted
returns-in-Leaf-clause-counted c = λ total a.
    let n = rw c.in-Leaf.is at c.in_ok-node.ensures.exact in
    let b = rw c.in-Leaf.is at c.in_ok-node.ensures.begun in
    record { collections = moved c.in-Leaf.node.end (omega (arith, b.0.order)) a; node = leaf_counted total (omega (arith, b.0.order)) a.innermost.depth n }

pub returns-in_ok-push-in-Opened-clause-counted : goal.returns-in_ok-push-in-Opened-clause-counted
returns-in_ok-push-in-Opened-clause-counted c = λ total a.
    let n = rw c.in-Opened.is at c.in_ok-node.ensures.exact in
    let b = rw c.in-Opened.is at c.in_ok-node.ensures.begun in
    counted_more _ c.in-Opened.frame.entry c.in_ok-push-in-Opened.ensures.ok (omega (arith, b.0.order)) (opened_counted total a.utf8 a.innermost.depth n) a

pub returns-in-TooDeep-clause-counted : goal.returns-in-TooDeep-clause-counted
returns-in-TooDeep-clause-counted c = λ total a. full_counted total a.utf8 a.innermost.depth (rw c.in-TooDeep.is at c.in_ok-node.ensures.exact)

pub begin_node-requires : goal.begin_node-requires
begin_node-requires c = record { boundary = c.requires.standing.boundary; escapes = c.requires.escapes }
