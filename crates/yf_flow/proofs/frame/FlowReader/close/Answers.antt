use Rattle.std.proofs.Common.{refl, length, sym, true≢false, ap, ◌∙◌, None, ◌++◌, ◌∷◌, [], ◌+◌, arith}
use Rattle.yf_events.specs.Edit.{edited, ended}
use Rattle.yf_flow.specs.NodeStarts.{entry_event}
use Rattle.yf_flow.proofs.Stack.TiedClose.{close_into, close_base, popped, none_left}
use Rattle.yf_flow.proofs.Stack.CountLemmas.{moved, counted_less}
use Rattle.yf_flow.proofs.Ends.Frames.{pushed_longer}
use Rattle.yf_flow.proofs.Ends.MachineLemmas.{frames_popped, frames_left}
use Rattle.yf_flow.proofs.frame.FlowReader.close.Goals as goal

pub returns-in-Some : goal.returns-in-Some
returns-in-Some c =
    let l = pushed_longer _ _ _ c.in_ok-push.ensures in
    let f = frames_popped {k = length c.set_end.new.self} _ _ _ c.in-Some.ensures.items (omega (arith, l, c.in_ok-set_end.ensures.len)) c.requires.others in
    let b = c.requires.boundary.0 in
    record {
      tied = λ base r a.
          close_into a
          (c.in_ok-set_end.ensures.edited ∙ ap (λ w. edited (ended (c.args.at + 1)) c.args.self.now.top.event w)
          (c.in_ok-push.ensures ∙ ap (λ w. c.args.self.now.part.events ++ w ∷ []) (c.unplaced-end.ensures ∙ ap (λ v. entry_event v None) c.collection_end.ensures))) refl refl c.in-Some.outer _
          (popped _ _ _ c.in-Some.ensures.items);
      counted = λ total a. counted_less c.in-Some.ensures.items (moved (c.args.at + 1) (omega arith) a);
      stepped = record {
        ready = record { below = f.0; step = (record { boundary = c.requires.boundary; order = omega arith }, f.1) };
        moves = omega (arith, b);
        same_escapes = refl;
      };
    }

pub returns-in-None : goal.returns-in-None
returns-in-None c =
    let l = pushed_longer _ _ _ c.in_ok-push.ensures in
    record {
      tied = λ base r a.
          close_base a
          (c.in_ok-set_end.ensures.edited ∙ ap (λ w. edited (ended (c.args.at + 1)) c.args.self.now.top.event w)
          (c.in_ok-push.ensures ∙ ap (λ w. c.args.self.now.part.events ++ w ∷ []) (c.unplaced-end.ensures ∙ ap (λ v. entry_event v None) c.collection_end.ensures))) refl refl
          (none_left _ (λ l. true≢false (sym (c.in-None.ensures.variant.1 l))));
      counted = λ total a. let m = moved (c.args.at + 1) (omega arith) a in m.innermost.deepest;
      stepped = record {
        ready = record {
          below = frames_left {k = length c.set_end.new.self} _ _ c.in-None.ensures.items (omega (arith, l, c.in_ok-set_end.ensures.len)) c.requires.others;
          step = record { boundary = c.requires.boundary; order = omega arith };
        };
        moves = omega arith;
        same_escapes = refl;
      };
    }
