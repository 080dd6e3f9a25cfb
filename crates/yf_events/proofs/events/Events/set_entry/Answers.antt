use Rattle.std.proofs.Common.{Some, ap, sym, ◌∙◌, refl}
use Rattle.yf_events.specs.Packed.{row_value}
use Rattle.yf_events.proofs.PackedRows.{edited_seen, fits_set, rows_long, with_entry_is}
use Rattle.yf_events.proofs.events.Events.set_entry.Goals as goal

pub invariant_of-self : goal.invariant_of-self
invariant_of-self c =
    fits_set _ c.self.inside.rows.items c.args.i c.index_mut-row.result.now _ (rows_long _ _ _ _ c.self.view_is c.requires) c.index_mut-row.ensures.value refl c.self.invariant

pub returns : goal.returns
returns c =
    edited_seen _ (λ e. record e { entry = Some c.args.entry }) c.self.inside.rows.items _ c.args.i c.index_mut-row.result.now _ (rows_long _ _ _ _ c.self.view_is c.requires)
    c.index_mut-row.ensures.value (ap (λ x. record (row_value c.self.inside.more.items c.index_mut-row.result.now) { entry = x }) (c.in_ok-beginning.ensures)) c.self.view_is
    ∙ sym (with_entry_is c.args.i c.args.self.now c.args.entry)
