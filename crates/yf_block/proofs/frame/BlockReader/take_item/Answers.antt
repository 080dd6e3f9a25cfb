use Rattle.std.proofs.Common.{true, false, Some, None, length, ap, ◌∙◌, arith}
use Rattle.yf_flow.proofs.Stack.TiedClose.{popped}
use Rattle.yf_block.specs.BlockTied.{wanted_after}
use Rattle.yf_block.proofs.Stack.TiedNodes.{node_tied, entry_same, floor_blank, item_awaited}
use Rattle.yf_block.proofs.Runs.CountedSteps.{dash_passed, pushed_counted}
use Rattle.yf_block.proofs.Runs.MovedLemmas.{awaited_moved}
use Rattle.yf_block.proofs.frame.BlockReader.take_item.Goals as goal

pub returns : goal.returns
returns c = record {
  tied = λ d root before j r i.
      let a = i.entry in
      let y = c.requires.dash in
      let e = c.entry_at-entry.ensures in
      let n = e.note (λ q. omega (arith, q, y.dash)) (floor_blank a (omega (arith, y.dash))) in
      let v = c.await_node.ensures in
      let l = a.shallow in
      let m = a.collection.column in
      node_tied _ v.step (item_awaited a y i.sequence i.settled (popped _ _ _ c.in_ok-push.ensures.ok) n
      (v.wanted (omega (arith, l, m)) ∙ ap (λ x. wanted_after c.args.slot.frame.column true false (Some x)) (entry_same c.entry_at-entry.result c.args.slot.at None e.start e.colon))
      v.last v.floor v.colons v.halt);
  stepped = awaited_moved c.await_node.ensures c.requires.standing.progress c.requires.standing.escapes (omega arith) c.requires.after;
  counted = λ u total q.
      pushed_counted c.args.scope.text.now c.args.scope.limit total _ _ _ _ _ c.await_node.ensures.step c.in_ok-push.ensures.ok (dash_passed _ (length c.args.self.now.frames.items) total c.args.slot.at u c.requires.dash q);
}
