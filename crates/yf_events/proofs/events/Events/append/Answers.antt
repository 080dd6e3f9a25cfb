use Rattle.std.proofs.Common.{arith}
use Rattle.std.proofs.lemmas.Result.{err_from_is_err_and}
use Rattle.yf_events.proofs.PackedRows.{append_fits, append_seen, same_fits, same_seen, moved_by}
use Rattle.yf_events.proofs.events.Events.append.Goals as goal

pub invariant_of-self-in_err-append-2 : goal.invariant_of-self-in_err-append-2
invariant_of-self-in_err-append-2 c =
    same_fits c.self.inside.more.items _ _ _ c.in_err-append-2.ensures.items (record { added = c.other.inside.more.items; is = c.in_ok-append.ensures.items }) c.self.invariant

pub returns-in_err-append-2 : goal.returns-in_err-append-2
returns-in_err-append-2 c =
    let p = err_from_is_err_and c.from_residual-in_err-append-2.result c.from_residual-in_err-append-2.ensures.1 in
    rw p.1 (same_seen c.self.inside.more.items _ _ _ _ c.in_err-append-2.ensures.items (record { added = c.other.inside.more.items; is = c.in_ok-append.ensures.items }) c.self.invariant c.self.view_is)

pub invariant_of-self-2 : goal.invariant_of-self-2
invariant_of-self-2 c =
    append_fits c.self.inside.more.items c.other.inside.more.items _ c.self.inside.rows.items c.other.inside.rows.items _ _ c.in_ok-append.ensures.items
    (moved_by _ _ c.in_ok-narrow.field-0 _ c.in_ok-shift.ensures (omega (arith, c.in_ok-narrow.ensures, c.len.ensures, c.self.inside.more.ok.0))) c.in_ok-append-2.ensures.items c.self.invariant c.other.invariant

pub returns : goal.returns
returns c =
    append_seen c.self.inside.more.items c.other.inside.more.items _ c.self.inside.rows.items c.other.inside.rows.items _ _ _ _ c.in_ok-append.ensures.items
    (moved_by _ _ c.in_ok-narrow.field-0 _ c.in_ok-shift.ensures (omega (arith, c.in_ok-narrow.ensures, c.len.ensures, c.self.inside.more.ok.0))) c.in_ok-append-2.ensures.items c.self.invariant c.self.view_is c.other.view_is
