use Rattle.std.proofs.Common.{refl, ap, ◌∙◌, ◌++◌, ◌∷◌, [], arith}
use Rattle.yf_flow.proofs.Stack.TiedSigns.{keyless_awaits}
use Rattle.yf_flow.proofs.Ends.MachineLemmas.{led, frames_event, awaited_event}
use Rattle.yf_flow.proofs.frame.FlowReader.keyless_value.Goals as goal

pub returns : goal.returns
returns c =
    led _ _ _ _ c.await_value.result c.await_value.ensures
    (λ base r a.
    keyless_awaits a.sign a.awaited c.entry_at-entry.result (c.entry_at-entry.ensures a.no_feed) (c.in_ok-push.ensures ∙ ap (λ z. c.args.self.now.part.events ++ z ∷ []) c.empty_node.ensures) refl refl)
    (λ total a. a) (omega arith) refl

pub await_value-requires : goal.await_value-requires
await_value-requires c =
    let q = c.requires in
    let e = c.in_ok-push.ensures in
    record { boundary = q.boundary; innermost = awaited_event _ _ _ _ e q.innermost; others = frames_event _ _ _ _ e q.others }
