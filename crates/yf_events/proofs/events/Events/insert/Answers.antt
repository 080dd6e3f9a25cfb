use Rattle.std.proofs.lemmas.Result.{err_from_is_err_and}
use Rattle.yf_events.proofs.PackedRows.{grown_fits, grown_seen, insert_fits, insert_seen, same_fits, same_seen}
use Rattle.yf_events.proofs.events.Events.insert.Goals as goal

pub invariant_of-self : goal.invariant_of-self
invariant_of-self c = grown_fits _ _ _ c.row_of.ensures.grown c.self.invariant

pub returns-in_err-row : goal.returns-in_err-row
returns-in_err-row c =
    let p = err_from_is_err_and c.from_residual.result c.from_residual.ensures.1 in
    rw p.1 (grown_seen _ _ _ _ c.row_of.ensures.grown c.self.invariant c.self.view_is)

pub invariant_of-self-in_err-insert : goal.invariant_of-self-in_err-insert
invariant_of-self-in_err-insert c = same_fits _ _ _ _ c.in_err-insert.ensures.items c.row_of.ensures.grown c.self.invariant

pub returns-in_err-insert : goal.returns-in_err-insert
returns-in_err-insert c =
    let p = err_from_is_err_and c.from_residual-in_err-insert.result c.from_residual-in_err-insert.ensures.1 in
    rw p.1 (same_seen _ _ _ _ _ c.in_err-insert.ensures.items c.row_of.ensures.grown c.self.invariant c.self.view_is)

pub invariant_of-self-2 : goal.invariant_of-self-2
invariant_of-self-2 c = insert_fits _ _ c.self.inside.rows.items _ c.args.i _ _ c.in_ok-insert.ensures.items c.row_of.ensures.grown c.self.invariant c.in_ok-row.ensures.row

pub returns : goal.returns
returns c = insert_seen _ _ c.self.inside.rows.items _ c.args.i _ _ _ c.in_ok-insert.ensures.items c.row_of.ensures.grown c.self.invariant c.in_ok-row.ensures.row c.self.view_is
