use Rattle.std.proofs.Common.{refl, ◌∙◌, ◌++◌, ◌∷◌, take, drop, ap, arith, ◌+◌}
use Rattle.yf_events.specs.Event.{placed_value}
use Rattle.yf_flow.proofs.Ends.Frames.{frames_pushed, inserted_longer}
use Rattle.yf_flow.proofs.Stack.TiedClose.{popped}
use Rattle.yf_flow.proofs.Stack.TiedItems.{item_deep_fails}
use Rattle.yf_flow.proofs.Stack.TiedPairKeys.{key_pair}
use Rattle.yf_flow.proofs.Stack.CountLemmas.{openers_later, colon_passed, counted_more}
use Rattle.yf_flow.proofs.Ends.MachineLemmas.{led}
use Rattle.yf_flow.proofs.frame.FlowReader.pair_of_key.Goals as goal

pub returns-then-deepest-scene : goal.returns-then-deepest-scene
returns-then-deepest-scene c = record {
  tied = λ base r a. item_deep_fails a.ended a.role r a.key (omega (arith, c.max-deepest.ensures, c.if-deepest-scene.true));
  counted = λ total a.
      let d = a.room.collections.innermost.depth in
      let n = a.room.node in
      let x = colon_passed c.args.at a.room.collections.utf8 a.colon_there in
      let y = openers_later c.args.scene.text.now c.args.node.end c.args.at a.order in
      omega (arith, c.max-deepest.ensures, c.if-deepest-scene.true);
  stepped = record {
    ready = record { below = c.requires.others; step = c.requires.innermost.place };
    moves = omega arith;
    same_escapes = refl;
  };
}

pub await_value-requires : goal.await_value-requires
await_value-requires c =
    let l = inserted_longer _ _ _ _ c.in_ok-insert.ensures in
    let q = c.requires.innermost in
    record {
      boundary = c.requires.boundary;
      innermost = record { event = omega (arith, l, c.in_ok-set_colon.ensures.len, q.entry); entry = omega (arith, l, c.in_ok-set_colon.ensures.len, q.entry); place = q.place };
      others =
          frames_pushed _ _ _ _ c.args.self.now.top c.in_ok-push.ensures.ok (omega (arith, l, c.in_ok-set_colon.ensures.len)) c.requires.others
          (record { event = omega (arith, l, c.in_ok-set_colon.ensures.len, q.event); entry = omega (arith, l, c.in_ok-set_colon.ensures.len, q.entry); place = q.place });
    }

pub returns : goal.returns
returns c =
    led _ _ _ _ c.await_value.result c.await_value.ensures
    (λ base r a.
    key_pair a.ended a.role r a.key (omega (arith, c.max-deepest.ensures, c.if-deepest-scene.false)) _ refl refl (omega (arith, c.max-deepest.ensures)) refl refl
    (placed_value c.pair_start-start.result) c.pair_start-start.ensures
    (c.in_ok-insert.ensures ∙ ap (λ z. take c.args.self.now.top.entry_event z ++ placed_value c.pair_start-start.result ∷ drop c.args.self.now.top.entry_event z) c.in_ok-set_colon.ensures.edited)
    refl refl (popped _ _ c.args.self.now.top c.in_ok-push.ensures.ok))
    (λ total a.
    let d = a.room.collections.innermost.depth in
    let n = a.room.node in
    let x = colon_passed c.args.at a.room.collections.utf8 a.colon_there in
    let y = openers_later c.args.scene.text.now c.args.node.end c.args.at a.order in
    counted_more _ (c.args.at + 1) c.in_ok-push.ensures.ok (omega (arith, a.order)) (record { depth = omega arith; deepest = omega (arith, c.max-deepest.ensures) }) a.room.collections)
    (omega arith) refl
