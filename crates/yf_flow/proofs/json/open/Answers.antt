use Rattle.std.proofs.Common.{refl, sym, append-nil, arith}
use Rattle.yf_flow.proofs.Content.BegunLemmas.{start_event}
use Rattle.yf_flow.proofs.Ends.Frames.{pushed_longer}
use Rattle.yf_flow.proofs.json.open.Goals as goal

pub returns-then-cursor : goal.returns-then-cursor
returns-then-cursor c = record {
  exact = (refl, record { kind = c.args.kind; bracket = c.requires.bracket; full = omega (arith, c.if-cursor.true) });
  begun = c.requires.awaited.boundary;
  grows = omega arith;
  escapes = c.requires.awaited.escapes;
}

pub returns : goal.returns
returns c =
    let l = pushed_longer _ _ _ c.in_ok-push.ensures in
    record {
      exact = record {
        bracket = c.requires.bracket;
        entry = refl;
        event = c.len-event.ensures;
        deep = refl;
        deepest = refl;
        room = omega (arith, c.if-cursor.false);
        added = record {
          events = start_event c.args.lead.now c.args.kind _ _ _ _ _ c.in_ok-push.ensures c.placed.ensures c.collection_start-start.ensures;
          comments = sym (append-nil _);
          escapes = sym (append-nil _);
        };
      };
      begun = (record { boundary = c.requires.follows; order = omega arith }, record { event = omega (arith, l, c.len-event.ensures); entry = omega (arith, l, c.len-event.ensures); place = c.requires.follows }, l);
      grows = omega (arith, l);
      escapes = c.requires.awaited.escapes;
    }
