use Rattle.std.proofs.Common.{◌≡◌, ℕ, ◌+◌, true, false, Some, None, refl, ap, ◌∙◌, arith, length, ◌≤◌}
use Rattle.yf_events.specs.Edit.{edited, coloned}
use Rattle.yf_block.specs.BlockTied.{wanted_after}
use Rattle.yf_block.proofs.Stack.TiedKeys.{none_of, some_of, key_narrow, key_room, key_there, key_lost, key_nowhere, key_unended, key_column, key_ended}
use Rattle.yf_block.proofs.Stack.TiedNodes.{node_tied, entry_same}
use Rattle.yf_block.proofs.Runs.CountedSteps.{node_counted, later}
use Rattle.yf_block.proofs.Runs.MovedLemmas.{awaited_moved, deep_moved, failed_moved}
use Rattle.yf_block.proofs.frame.BlockReader.take_key_after.Goals as goal

pub returns-in-Nowhere : goal.returns-in-Nowhere
returns-in-Nowhere c = record {
  tied = λ d root before j r q.
      let e : c.args.column + 1 ≡ q.frame.column + 1 = omega (arith, q.column_there) in
      key_nowhere q.at q.mapping q.no_question q.no_colon e (rw c.in-Nowhere.is at c.in_ok-place.ensures.reads)
      (some_of c.args.scope.text.now c.args.key.start c.args.inner.now c.requires.reads);
  stepped = failed_moved c.requires.standing.progress c.requires.standing.escapes (rw c.in-Nowhere.is at c.in_ok-place.ensures.place);
  counted = λ u total q. tt;
}

pub returns-in-Nothing : goal.returns-in-Nothing
returns-in-Nothing c = record {
  tied = λ d root before j r q.
      let x = q.at in
      let e : c.args.column + 1 ≡ q.frame.column + 1 = omega (arith, q.column_there) in
      let narrow = key_narrow x q.mapping q.no_question q.no_colon e in
      let f : c.saturating_add-least.result ≡ q.frame.column + 1 = omega (arith, narrow, e, c.saturating_add-least.ensures) in
      let room = key_room x q.mapping q.no_question q.no_colon f c.args.self.now.frames.items q.stack in
      let there : c.len-depth.result + x.room ≡ c.args.scope.limit = omega (arith, room, r, c.len-depth.ensures.value) in
      let read = rw c.in-Nothing.is at (c.in_ok-node-in-At.ensures.answers x.read.text.utf8 (omega (arith, f, e, narrow)) x.room there) in
      key_lost x q.mapping q.no_question q.no_colon f (rw c.in-At.is at c.in_ok-place.ensures.reads)
      (none_of c.args.scope.text.now c.args.key.start c.args.inner.now c.requires.reads) (some_of c.args.scope.text.now c.args.key.start c.args.inner.now c.requires.reads) read;
  stepped = failed_moved c.requires.standing.progress c.in_ok-node-in-At.ensures.escapes (rw c.in-At.is at c.in_ok-place.ensures.place).0;
  counted = λ u total q. tt;
}

pub returns-in-TooDeep : goal.returns-in-TooDeep
returns-in-TooDeep c = record {
  tied = λ d root before j r q.
      let x = q.at in
      let e : c.args.column + 1 ≡ q.frame.column + 1 = omega (arith, q.column_there) in
      let narrow = key_narrow x q.mapping q.no_question q.no_colon e in
      let f : c.saturating_add-least.result ≡ q.frame.column + 1 = omega (arith, narrow, e, c.saturating_add-least.ensures) in
      let room = key_room x q.mapping q.no_question q.no_colon f c.args.self.now.frames.items q.stack in
      let there : c.len-depth.result + x.room ≡ c.args.scope.limit = omega (arith, room, r, c.len-depth.ensures.value) in
      let read = rw c.in-TooDeep.is at (c.in_ok-node-in-At.ensures.answers x.read.text.utf8 (omega (arith, f, e, narrow)) x.room there) in
      key_lost x q.mapping q.no_question q.no_colon f (rw c.in-At.is at c.in_ok-place.ensures.reads)
      (none_of c.args.scope.text.now c.args.key.start c.args.inner.now c.requires.reads) (some_of c.args.scope.text.now c.args.key.start c.args.inner.now c.requires.reads) read;
  stepped = deep_moved c.requires.standing.progress c.in_ok-node-in-At.ensures.escapes (rw c.in-TooDeep.is at c.in_ok-node-in-At.ensures.found);
  counted = λ u total q.
      let p = rw c.in-At.is at c.in_ok-place.ensures.place in
      rw c.in-TooDeep.is at (c.in_ok-node-in-At.ensures.counted u total c.args.key.start (omega (arith, p.2)) (omega (arith, q, c.len-depth.ensures.value)));
}

pub returns-else-key_ends : goal.returns-else-key_ends
returns-else-key_ends c = record {
  tied = λ d root before j r q.
      let x = q.at in
      let e : c.args.column + 1 ≡ q.frame.column + 1 = omega (arith, q.column_there) in
      let narrow = key_narrow x q.mapping q.no_question q.no_colon e in
      let f : c.saturating_add-least.result ≡ q.frame.column + 1 = omega (arith, narrow, e, c.saturating_add-least.ensures) in
      let room = key_room x q.mapping q.no_question q.no_colon f c.args.self.now.frames.items q.stack in
      let there : c.len-depth.result + x.room ≡ c.args.scope.limit = omega (arith, room, r, c.len-depth.ensures.value) in
      let read = rw (c.in-End.is, c.lead_of-lead.ensures) at (c.in_ok-node-in-At.ensures.answers x.read.text.utf8 (omega (arith, f, e, narrow)) x.room there) in
      let node = key_there x q.mapping q.no_question q.no_colon f (rw c.in-At.is at c.in_ok-place.ensures.reads)
      (none_of c.args.scope.text.now c.args.key.start c.args.inner.now c.requires.reads) (some_of c.args.scope.text.now c.args.key.start c.args.inner.now c.requires.reads) read in
      key_unended x q.mapping q.no_question q.no_colon f node c.skip_whites-colon.ensures.whites.1 c.skip_whites-colon.ensures.all c.if-key_ends.ensures.cases;
  stepped = failed_moved c.requires.standing.progress c.in_ok-node-in-At.ensures.escapes c.skip_whites-colon.ensures.boundary;
  counted = λ u total q. tt;
}

pub returns-then-key_ends : goal.returns-then-key_ends
returns-then-key_ends c = record {
  tied = λ d root before j r q.
      let x = q.at in
      let e : c.args.column + 1 ≡ q.frame.column + 1 = omega (arith, q.column_there) in
      let narrow = key_narrow x q.mapping q.no_question q.no_colon e in
      let f : c.saturating_add-least.result ≡ q.frame.column + 1 = omega (arith, narrow, e, c.saturating_add-least.ensures) in
      let room = key_room x q.mapping q.no_question q.no_colon f c.args.self.now.frames.items q.stack in
      let there : c.len-depth.result + x.room ≡ c.args.scope.limit = omega (arith, room, r, c.len-depth.ensures.value) in
      let read = rw (c.in-End.is, c.lead_of-lead.ensures) at (c.in_ok-node-in-At.ensures.answers x.read.text.utf8 (omega (arith, f, e, narrow)) x.room there) in
      let node = key_there x q.mapping q.no_question q.no_colon f (rw c.in-At.is at c.in_ok-place.ensures.reads)
      (none_of c.args.scope.text.now c.args.key.start c.args.inner.now c.requires.reads) (some_of c.args.scope.text.now c.args.key.start c.args.inner.now c.requires.reads) read in
      let v = c.await_value.ensures in
      let here = key_column x q.mapping q.no_question q.no_colon f node c.skip_whites-colon.ensures.whites.1 in
      node_tied _ v.step (key_ended x q.mapping q.no_question q.no_colon f node c.skip_whites-colon.ensures.whites.1 c.if-key_ends.ensures.cases q.note
      (ap (λ z. Some z) (entry_same c.args.key c.args.key.start None refl q.no_colon_yet)) q.stack
      (c.in_ok-set_colon-in-End.ensures.edited ∙ ap (λ (z : ℕ). edited (coloned c.skip_whites-colon.result) z c.read_inline.new.part.events) c.len-event.ensures) refl refl
      (v.wanted (omega (arith, here, q.column_there)) ∙ ap (λ (z : ℕ). wanted_after z false true None) q.column_there) v.last v.floor v.colons v.halt);
  stepped =
      let p = rw c.in-At.is at c.in_ok-place.ensures.place in
      let f = rw c.in-End.is at c.in_ok-node-in-At.ensures.found in
      awaited_moved c.await_value.ensures c.requires.standing.progress c.in_ok-node-in-At.ensures.escapes (omega (arith, p.2, f.order, c.skip_whites-colon.ensures.order)) (c.key_ends.ensures.boundary c.if-key_ends.true);
  counted = λ u total q.
      let p = rw c.in-At.is at c.in_ok-place.ensures.place in
      let f = rw c.in-End.is at c.in_ok-node-in-At.ensures.found in
      let l : c.args.key.start ≤ c.skip_whites-colon.result + 1 = omega (arith, p.2, f.order, c.skip_whites-colon.ensures.order) in
      node_counted c.args.scope.text.now c.args.scope.limit total _ _ _ c.await_value.ensures.step (later _ (length c.args.self.now.frames.items) total c.args.key.start _ l q);
}

pub key_text-requires : goal.key_text-requires
key_text-requires c = record { start = c.requires.standing.boundary; properties = c.requires.place }

pub read_inline-requires : goal.read_inline-requires
read_inline-requires c = let p = rw c.in-At.is at c.in_ok-place.ensures.place in record { boundary = p.0; properties = p.1; escapes = c.requires.standing.escapes }

pub skip_whites-colon-requires : goal.skip_whites-colon-requires
skip_whites-colon-requires c = let f = rw c.in-End.is at c.in_ok-node-in-At.ensures.found in f.boundary

pub key_ends-requires : goal.key_ends-requires
key_ends-requires c = c.requires.standing.boundary

pub await_value-requires : goal.await_value-requires
await_value-requires c = let b = c.key_ends.ensures.boundary c.if-key_ends.true in omega (arith, b.0)
