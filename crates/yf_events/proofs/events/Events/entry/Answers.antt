use Rattle.std.proofs.Common.{Some, ap, sym, ◌∙◌}
use Rattle.yf_events.proofs.PackedRows.{seen_at}
use Rattle.yf_events.proofs.events.Events.entry.Goals as goal

pub returns : goal.returns
returns c =
    seen_at (λ e. e.entry) c.self.inside.more.items c.self.inside.rows.items c.args.self.now c.args.i c.index.result.now c.requires c.index.ensures c.self.view_is
    ∙ ap Some (sym c.entry_of.ensures)
