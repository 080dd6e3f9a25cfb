use Rattle.std.proofs.Common.{◌++◌, ◌∷◌, [], sym, ap, ◌∙◌, refl, append-nil, true≢false, arith, length, ◌+◌}
use Rattle.yf_flow.proofs.Stack.TiedClose.{popped}
use Rattle.yf_block.specs.CollectionEnds.{value_missing}
use Rattle.yf_block.proofs.Stack.TiedEntries.{pair_follows_top}
use Rattle.yf_block.proofs.Stack.TiedNodes.{node_tied, value_awaited}
use Rattle.yf_block.proofs.Runs.CountedSteps.{later, later_counted, pushed_counted}
use Rattle.yf_block.proofs.Runs.MovedLemmas.{awaited_moved}
use Rattle.yf_block.proofs.frame.BlockReader.next_entry.Goals as goal

pub returns-then-is_sign_at : goal.returns-then-is_sign_at
returns-then-is_sign_at c = record {
  tied = λ d root before j r a.
      let v = c.await_node.ensures in
      let u = a.fits.is_there in
      node_tied _ v.step (value_awaited a.top c.if-frame.true a.fits c.if-is_sign_at.ensures.cases c.in_ok-set_colon.ensures.edited refl refl (popped _ _ _ c.in_ok-push.ensures.ok) (v.wanted (omega (arith, u))) v.last v.floor v.colons v.halt);
  stepped = awaited_moved c.await_node.ensures c.requires.progress c.requires.escapes (omega arith) (c.is_sign_at.ensures.boundary c.if-is_sign_at.true);
  counted = λ u total q.
      pushed_counted c.args.scope.text.now c.args.scope.limit total _ _ _ _ _ c.await_node.ensures.step c.in_ok-push.ensures.ok
      (later _ (length c.args.self.now.frames.items + 1) total c.args.slot.at (c.args.slot.at + 1) (omega arith) q);
}

pub returns-then-frame : goal.returns-then-frame
returns-then-frame c = record {
  tied = λ d root before j r a.
      c.take_entry.ensures.tied d root before j r (record {
        mapping = a.fits.kind;
        entry = pair_follows_top a.top c.requires.boundary.0 a.fits (λ q s. c.if-is_sign_at.ensures.cases s)
            (c.in_ok-push-2.ensures ∙ ap (λ v. c.args.self.now.part.events ++ v ∷ []) c.empty_node.ensures ∙ ap (λ v. c.args.self.now.part.events ++ value_missing v) (sym c.if-frame.true)) refl refl;
      });
  stepped = c.take_entry.ensures.stepped;
  counted = λ u total q. c.take_entry.ensures.counted u total (later_counted _ (length c.args.self.now.frames.items) total c.args.slot.at q);
}

pub returns : goal.returns
returns c = record {
  tied = λ d root before j r a.
      c.take_entry-2.ensures.tied d root before j r (record {
        mapping = a.fits.kind;
        entry = pair_follows_top a.top c.requires.boundary.0 a.fits (λ q s. true≢false (sym q ∙ c.if-frame.false))
            (sym (append-nil c.args.self.now.part.events) ∙ ap (λ v. c.args.self.now.part.events ++ value_missing v) (sym c.if-frame.false)) refl refl;
      });
  stepped = c.take_entry-2.ensures.stepped;
  counted = λ u total q. c.take_entry-2.ensures.counted u total (later_counted _ (length c.args.self.now.frames.items) total c.args.slot.at q);
}

pub take_entry-requires : goal.take_entry-requires
take_entry-requires c = record { boundary = c.requires.boundary; progress = c.requires.progress; escapes = c.requires.escapes }

pub await_node-requires : goal.await_node-requires
await_node-requires c = let b = c.is_sign_at.ensures.boundary c.if-is_sign_at.true in omega (arith, b.0)
