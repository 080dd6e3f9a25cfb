use Rattle.std.proofs.Common.{refl, ap, ◌∙◌, ◌++◌, ◌∷◌, [], arith, ◌+◌}
use Rattle.yf_flow.proofs.Stack.TiedEnds.{gap_of}
use Rattle.yf_flow.proofs.Stack.TiedKeys.{key_value}
use Rattle.yf_flow.proofs.Stack.TiedNodes.{key_read_done}
use Rattle.yf_flow.proofs.Stack.CountLemmas.{moved}
use Rattle.yf_flow.proofs.Ends.MachineLemmas.{led, frames_event, indexed_event}
use Rattle.yf_flow.proofs.frame.FlowReader.after_key.Goals as goal

pub returns-then-is_colon_at : goal.returns-then-is_colon_at
returns-then-is_colon_at c =
    let p = c.in_ok-place.ensures in
    let g = gap_of p.reads in
    led _ _ _ _ c.await_value.result c.await_value.ensures (λ base r a. key_value a.ended a.role a.reached g.1 c.if-is_colon_at.ensures.cases c.in_ok-set_colon.ensures.edited g.2 refl)
    (λ total a. moved (c.in_ok-place.field-0.end + 1) (omega (arith, p.place.order)) a) p.place.order refl

pub returns : goal.returns
returns c =
    let p = c.in_ok-place.ensures in
    let g = gap_of p.reads in
    led _ _ _ _ c.end_entry.result c.end_entry.ensures
    (λ base r a. key_read_done a.ended a.role g.1 c.if-is_colon_at.ensures.cases (c.in_ok-push.ensures ∙ ap (λ w. c.args.self.now.part.events ++ w ∷ []) c.empty_node.ensures) g.2 refl
    c.args.self.now.top a.reached.kind a.reached.event a.reached.depth a.reached.deepest)
    (λ total a. moved _ p.place.order a) p.place.order refl

pub end_entry-requires : goal.end_entry-requires
end_entry-requires c =
    let q = c.requires in
    let e = c.in_ok-push.ensures in
    record { boundary = c.in_ok-place.ensures.place.boundary; innermost = indexed_event _ _ _ _ e q.innermost; others = frames_event _ _ _ _ e q.others }
