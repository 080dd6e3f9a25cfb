use Rattle.std.proofs.Common.{refl, arith}
use Rattle.yf_events.specs.Event.{placed_value}
use Rattle.yf_flow.proofs.Ends.Frames.{frames_pushed, pushed_longer}
use Rattle.yf_flow.proofs.Stack.TiedClose.{popped}
use Rattle.yf_flow.proofs.Stack.TiedFirst.{sign_no_feed, pair_full_fails, sign_in_mapping, sign_in_pair}
use Rattle.yf_flow.proofs.Stack.TiedPairs.{kind_no_pair}
use Rattle.yf_flow.proofs.Stack.CountLemmas.{moved, counted_more}
use Rattle.yf_flow.proofs.frame.FlowReader.in_mapping.Goals as goal

pub returns-then-self-scene : goal.returns-then-self-scene
returns-then-self-scene c = record {
  tied = λ base r p cs sign a. pair_full_fails a r sign c.in-Sequence.is c.if-self-scene.true;
  counted = λ total i j l o a. let d = a.innermost.depth in omega (arith, c.if-self-scene.true);
  innermost = c.requires.innermost;
  others = c.requires.others;
  entry = refl;
  escapes = refl;
}

pub returns-in-Mapping : goal.returns-in-Mapping
returns-in-Mapping c = record {
  tied = λ base r p cs sign a. sign_in_mapping a c.in-Mapping.is;
  counted = λ total i j l o a. moved _ o a;
  innermost = c.requires.innermost;
  others = c.requires.others;
  entry = refl;
  escapes = refl;
}

pub returns-in-Pair : goal.returns-in-Pair
returns-in-Pair c = record {
  tied = λ base r p cs sign a. absurd (kind_no_pair a.sequence _ a.frame.kind c.in-Pair.is);
  counted = λ total i j l o a. moved _ o a;
  innermost = c.requires.innermost;
  others = c.requires.others;
  entry = refl;
  escapes = refl;
}

pub returns-in_ok-push-in-Sequence-2 : goal.returns-in_ok-push-in-Sequence-2
returns-in_ok-push-in-Sequence-2 c =
    let l = pushed_longer _ _ _ c.in_ok-push-in-Sequence.ensures in
    let q = c.requires.innermost in
    record {
      tied = λ base r p cs sign a.
          sign_in_pair a r c.in-Sequence.is (omega (arith, c.if-self-scene.false)) (placed_value c.pair_start-start.result) (c.pair_start-start.ensures (sign_no_feed sign)) c.in_ok-push-in-Sequence.ensures refl refl
          _ refl refl refl c.len-event.ensures refl c.len.ensures refl (popped _ _ c.args.self.now.top c.in_ok-push-in-Sequence-2.ensures.ok);
      counted = λ total i j l o a.
          let d = a.innermost.depth in
          counted_more _ j c.in_ok-push-in-Sequence-2.ensures.ok o (record { depth = omega arith; deepest = omega arith }) a;
      innermost = record { event = omega (arith, l, c.len-event.ensures); entry = omega (arith, c.len.ensures); place = q.place };
      others =
          frames_pushed _ _ _ _ c.args.self.now.top c.in_ok-push-in-Sequence-2.ensures.ok (omega (arith, l)) c.requires.others
          (record { event = omega (arith, l, q.event); entry = omega (arith, l, q.entry); place = q.place });
      entry = refl;
      escapes = refl;
    }
