use Rattle.std.proofs.Common.{ap, ◌∙◌, refl, arith}
use Rattle.yf_events.specs.Edit.{ended, span_to}
use Rattle.yf_events.specs.Packed.{row_value, span_at}
use Rattle.yf_events.proofs.PackedRows.{edited_seen, ended_is, fits_set, past_seen}
use Rattle.yf_events.proofs.events.Events.set_end.Goals as goal

pub invariant_of-self : goal.invariant_of-self
invariant_of-self c =
    fits_set _ c.self.inside.rows.items c.args.i c.index_mut.result.now _ (omega (arith, c.self.inside.rows.ok.0)) c.index_mut.ensures.value refl c.self.invariant

pub returns-then-i-len-clause-edited : goal.returns-then-i-len-clause-edited
returns-then-i-len-clause-edited c =
    edited_seen _ (ended c.args.end) c.self.inside.rows.items _ c.args.i c.index_mut.result.now _ (omega (arith, c.self.inside.rows.ok.0)) c.index_mut.ensures.value
    (ap (λ x. record (row_value c.self.inside.more.items c.index_mut.result.now) { span = x }) (ended_is c.index_mut.result.now.placed c.index_mut.result.now.start c.index_mut.result.now.end c.in_ok-end.end ∙ ap (λ k. span_to k (span_at c.index_mut.result.now.placed c.index_mut.result.now.start c.index_mut.result.now.end)) (c.in_ok-end.ensures)))
    c.self.view_is

pub returns-else-i-len-clause-edited : goal.returns-else-i-len-clause-edited
returns-else-i-len-clause-edited c =
    past_seen _ (ended c.args.end) c.self.inside.rows.items _ c.args.i (omega (arith, c.self.inside.rows.ok.0)) c.self.view_is
