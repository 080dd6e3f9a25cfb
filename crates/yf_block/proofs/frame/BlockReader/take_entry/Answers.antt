use Rattle.std.proofs.Common.{◌≡◌, ℕ, ◌+◌, true, Some, None, reverse, ◌++◌, ◌∷◌, [], sym, ap, ◌∙◌, subst, arith, refl, length, inl, inr, ⊎_elim}
use Rattle.std.specs.Str.{IsCharBoundary}
use Rattle.yf_props.specs.Props.{no_props}
use Rattle.yf_events.specs.Event.{scalar_node}
use Rattle.yf_events.specs.declared.event.ScalarStyle.TheVariants.{Plain}
use Rattle.yf_flow.specs.NodeStarts.{entry_event}
use Rattle.yf_flow.proofs.Stack.TiedClose.{popped}
use Rattle.yf_grammar.specs.Productions.ReadParts.{NotedSince}
use Rattle.yf_grammar.specs.BlockReader.BlockParser.{SignAt}
use Rattle.yf_block.specs.BlockStepTied.{AtEntry}
use Rattle.yf_block.specs.BlockTied.{wanted_after}
use Rattle.yf_block.proofs.Stack.TiedNodes.{node_tied, entry_same, floor_blank, colons_below, key_awaited, lone_awaited}
use Rattle.yf_block.proofs.Runs.CountedSteps.{pushed_counted, sign_passed, within_counted}
use Rattle.yf_block.proofs.Runs.MovedLemmas.{awaited_moved, moved_later}
use Rattle.yf_block.proofs.frame.BlockReader.take_entry.Goals as goal

pub returns-then-is_sign_at : goal.returns-then-is_sign_at
returns-then-is_sign_at c = record {
  tied = λ d root before j r z.
      let k = z.mapping in
      let a = z.entry in
      let y = c.if-is_sign_at.ensures.cases in
      let e = c.entry_at-entry.ensures in
      let n = e.note (λ q. omega (arith, q, y.sign_is_at)) (floor_blank a (omega (arith, y.sign_is_at))) in
      let v = c.await_node.ensures in
      let l = a.shallow in
      let m = a.collection.column in
      let room = colons_below a in
      let count : c.saturating_add-progress.result ≡ c.args.self.now.progress.colons + 1 = omega (arith, room, j, c.saturating_add-progress.ensures) in
      node_tied _ v.step (key_awaited a y k c.len.ensures (popped _ _ _ c.in_ok-push.ensures.ok) n
      (v.wanted (omega (arith, l, m)) ∙ ap (λ x. wanted_after c.args.slot.frame.column true true (Some x)) (entry_same c.entry_at-entry.result c.args.slot.at None e.start e.colon))
      v.last v.floor (v.colons ∙ count) v.halt);
  stepped = awaited_moved c.await_node.ensures (record { floor = c.requires.progress.floor; from = c.requires.progress.from; halt = c.requires.progress.halt }) c.requires.escapes (omega arith) (c.is_sign_at.ensures.boundary c.if-is_sign_at.true);
  counted = λ u total q.
      let y = c.if-is_sign_at.ensures.cases in
      pushed_counted c.args.scope.text.now c.args.scope.limit total _ _ _ _ _ c.await_node.ensures.step c.in_ok-push.ensures.ok (sign_passed _ (length c.args.self.now.frames.items) total c.args.slot.at u (inl y) (q.signed (inl y)));
}

pub returns-then-is_sign_at-2 : goal.returns-then-is_sign_at-2
returns-then-is_sign_at-2 c = record {
  tied = λ d root before j r z.
      let k = z.mapping in
      let a = z.entry in
      let y = c.if-is_sign_at-2.ensures.cases in
      let e = c.entry_at-entry.ensures in
      let n = e.note (λ q. omega (arith, q, y.sign_is_at)) (floor_blank a (omega (arith, y.sign_is_at))) in
      let v = c.await_value.ensures in
      let l = a.shallow in
      let m = a.collection.column in
      node_tied _ v.step (lone_awaited a y k (popped _ _ _ c.in_ok-push-2.ensures.ok) n
      (c.in_ok-push-3.ensures ∙ ap (λ x. c.args.self.now.part.events ++ x ∷ []) (c.empty_node.ensures
      ∙ ap (λ (x : ℕ). entry_event (scalar_node no_props Plain []) (Some (record { start = x; colon = Some c.args.slot.at; blank_before = c.entry_at-entry.result.blank_before }))) e.start)) refl refl
      (v.wanted (omega (arith, l, m))) v.last v.floor v.colons v.halt);
  stepped = awaited_moved c.await_value.ensures c.requires.progress c.requires.escapes (omega arith) (c.is_sign_at-2.ensures.boundary c.if-is_sign_at-2.true);
  counted = λ u total q.
      let y = c.if-is_sign_at-2.ensures.cases in
      pushed_counted c.args.scope.text.now c.args.scope.limit total _ _ _ _ _ c.await_value.ensures.step c.in_ok-push-2.ensures.ok (sign_passed _ (length c.args.self.now.frames.items) total c.args.slot.at u (inr y) (q.signed (inr y)));
}

pub returns : goal.returns
returns c = record {
  tied = λ d root before j r z.
      let k = z.mapping in
      let a = z.entry in
      let e = c.entry_at-entry.ensures in
      let there = a.there in
      let n = e.note a.outside.apart (λ l. a.read.floor_line (omega (arith, there, l))) in
      c.take_key.ensures.tied d root before j r (record {
        outer = reverse c.args.self.now.frames.items;
        frame = c.args.slot.frame;
        at = subst (λ (z : ℕ). AtEntry c.args.scope.text.now d root before (reverse c.args.self.now.frames.items) c.args.slot.frame z c.args.self.now.progress c.args.self.now.part) (sym e.start) a;
        mapping = k;
        stack = popped _ _ _ c.in_ok-push-2.ensures.ok;
        column_there = refl;
        note = subst (λ (z : ℕ). NotedSince c.args.scope.text.now c.args.self.now.progress.floor z c.entry_at-entry.result.blank_before) (sym e.start) n;
        no_colon_yet = e.colon;
        no_question = λ s. c.if-is_sign_at.ensures.cases (subst (λ (z : ℕ). SignAt c.args.scope.text.now 63 z) e.start s);
        no_colon = λ s. c.if-is_sign_at-2.ensures.cases (subst (λ (z : ℕ). SignAt c.args.scope.text.now 58 z) e.start s);
      });
  stepped = moved_later {at = c.args.slot.at} {place = c.entry_at-entry.result.start} {more = 0} {less = 0} _ _ _ (omega (arith, c.entry_at-entry.ensures.start)) (omega arith) c.take_key.ensures.stepped;
  counted = λ u total q.
      let k = q.keyed (⊎_elim c.if-is_sign_at.ensures.cases c.if-is_sign_at-2.ensures.cases) in
      c.take_key.ensures.counted u total (within_counted c.args.scope.text.now total _ _ _ _ _ c.in_ok-push-2.ensures.ok c.entry_at-entry.ensures.start k);
}

pub take_key-requires : goal.take_key-requires
take_key-requires c = record { boundary = subst (λ (z : ℕ). IsCharBoundary c.args.scope.text.now z) (sym c.entry_at-entry.ensures.start) c.requires.boundary; progress = c.requires.progress; escapes = c.requires.escapes }

pub await_node-requires : goal.await_node-requires
await_node-requires c = let b = c.is_sign_at.ensures.boundary c.if-is_sign_at.true in omega (arith, b.0)

pub await_value-requires : goal.await_value-requires
await_value-requires c = let b = c.is_sign_at-2.ensures.boundary c.if-is_sign_at-2.true in omega (arith, b.0)
