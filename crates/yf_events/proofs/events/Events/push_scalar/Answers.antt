use Rattle.std.proofs.lemmas.Result.{err_from_is_err_and}
use Rattle.yf_events.proofs.PackedRows.{push_fits, push_seen, same_fits, same_seen, same_table}
use Rattle.yf_events.proofs.events.Events.push_scalar.Goals as goal

pub invariant_of-self : goal.invariant_of-self
invariant_of-self c = same_fits _ _ _ _ c.in_err-push.ensures.items (same_table _) c.self.invariant

pub returns-in_err-push : goal.returns-in_err-push
returns-in_err-push c =
    let p = err_from_is_err_and c.from_residual-in_err-push.result c.from_residual-in_err-push.ensures.1 in
    rw p.1 (same_seen _ _ _ _ _ c.in_err-push.ensures.items (same_table _) c.self.invariant c.self.view_is)

pub invariant_of-self-2 : goal.invariant_of-self-2
invariant_of-self-2 c = push_fits _ _ c.self.inside.rows.items _ _ _ c.in_ok-push.ensures.items (same_table _) c.self.invariant (c.in_ok-row.ensures c.self.inside.more.items)

pub returns : goal.returns
returns c =
    push_seen _ _ c.self.inside.rows.items _ _ _ _ c.in_ok-push.ensures.items (same_table _) c.self.invariant (c.in_ok-row.ensures c.self.inside.more.items) c.self.view_is
