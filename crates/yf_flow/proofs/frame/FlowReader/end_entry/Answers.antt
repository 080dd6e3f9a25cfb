use Rattle.std.proofs.Common.{refl, length, sym, true≢false, ap, ◌∙◌, ◌++◌, ◌∷◌, [], arith}
use Rattle.yf_events.specs.Edit.{edited, ended}
use Rattle.yf_flow.proofs.Stack.TiedClose.{popped, none_left}
use Rattle.yf_flow.proofs.Stack.TiedPairs.{done_entry, done_pair, pair_below}
use Rattle.yf_flow.proofs.Stack.CountLemmas.{counted_less, counted_reaching}
use Rattle.yf_flow.proofs.Ends.Frames.{pushed_longer}
use Rattle.yf_flow.proofs.Ends.MachineLemmas.{led, failed_stepped, frames_popped, frames_left, indexed_as}
use Rattle.yf_flow.proofs.frame.FlowReader.end_entry.Goals as goal

pub returns-in-Some : goal.returns-in-Some
returns-in-Some c =
    let v = c.reaching-self.ensures in
    led _ _ _ _ c.after_entry.result c.after_entry.ensures
    (λ base r a.
    done_pair a c.if-is_pair.ensures.cases
    (c.in_ok-set_end.ensures.edited ∙ ap (λ w. edited (ended c.args.finish) c.args.self.now.top.event w) (c.in_ok-push.ensures ∙ ap (λ w. c.args.self.now.part.events ++ w ∷ []) c.unplaced.ensures))
    refl refl c.in-Some.sequence _ (popped _ _ _ c.in-Some.ensures.items) c.reaching-self.result v.kind v.event v.depth v.deepest)
    (λ total a. counted_reaching _ v.depth v.deepest (counted_less c.in-Some.ensures.items a)) (omega arith) refl

pub returns-in-None : goal.returns-in-None
returns-in-None c =
    let l = pushed_longer _ _ _ c.in_ok-push.ensures in
    record {
      tied = λ base r a. absurd (pair_below a c.if-is_pair.ensures.cases (none_left _ (λ l. true≢false (sym (c.in-None.ensures.variant.1 l)))));
      counted = λ total a. tt;
      stepped = failed_stepped (frames_left {k = length c.set_end.new.self} _ _ c.in-None.ensures.items (omega (arith, l, c.in_ok-set_end.ensures.len)) c.requires.others) refl;
    }

pub after_entry-requires : goal.after_entry-requires
after_entry-requires c =
    let l = pushed_longer _ _ _ c.in_ok-push.ensures in
    let f = frames_popped _ _ _ c.in-Some.ensures.items (omega (arith, l, c.in_ok-set_end.ensures.len)) c.requires.others in
    let v = c.reaching-self.ensures in
    record { boundary = c.requires.boundary; innermost = indexed_as c.in-Some.sequence _ v.event v.index v.entry f.1; others = f.0 }

pub returns : goal.returns
returns c = led _ _ _ _ c.after_entry-2.result c.after_entry-2.ensures (λ base r a. done_entry a c.if-is_pair.ensures.cases) (λ total a. a) (omega arith) refl
