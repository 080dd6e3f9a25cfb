use Rattle.std.proofs.Common.{ap, ◌∙◌, refl, arith}
use Rattle.yf_events.specs.Edit.{coloned, with_colon}
use Rattle.yf_events.specs.Packed.{entry_at, row_value}
use Rattle.yf_events.proofs.PackedRows.{edited_seen, keyed_is, fits_set, past_seen}
use Rattle.yf_events.proofs.events.Events.set_colon.Goals as goal

pub invariant_of-self : goal.invariant_of-self
invariant_of-self c =
    fits_set _ c.self.inside.rows.items c.args.i c.index_mut-row.result.now _ (omega (arith, c.self.inside.rows.ok.0)) c.index_mut-row.ensures.value refl c.self.invariant

pub returns-then-i-len-clause-edited : goal.returns-then-i-len-clause-edited
returns-then-i-len-clause-edited c =
    edited_seen _ (coloned c.args.colon) c.self.inside.rows.items _ c.args.i c.index_mut-row.result.now _ (omega (arith, c.self.inside.rows.ok.0)) c.index_mut-row.ensures.value
    (ap (λ x. record (row_value c.self.inside.more.items c.index_mut-row.result.now) { entry = x }) (ap (λ b. entry_at b c.index_mut-row.result.now.entry c.in_ok-colon.colon) c.keyed-row.ensures ∙ keyed_is c.index_mut-row.result.now.begins c.index_mut-row.result.now.entry c.index_mut-row.result.now.colon c.in_ok-colon.colon ∙ ap (λ k. with_colon k (entry_at c.index_mut-row.result.now.begins c.index_mut-row.result.now.entry c.index_mut-row.result.now.colon)) (c.in_ok-colon.ensures)))
    c.self.view_is

pub returns-else-i-len-clause-edited : goal.returns-else-i-len-clause-edited
returns-else-i-len-clause-edited c =
    past_seen _ (coloned c.args.colon) c.self.inside.rows.items _ c.args.i (omega (arith, c.self.inside.rows.ok.0)) c.self.view_is
