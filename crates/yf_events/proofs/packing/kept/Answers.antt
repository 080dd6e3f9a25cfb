use Rattle.std.proofs.Common.{◌∙◌}
use Rattle.std.proofs.lemmas.Result.{IfOk-weaker, err_from_is_err_and}
use Rattle.yf_events.specs.Packed.{InTable}
use Rattle.yf_events.proofs.PackedRows.{not_stored, same_table, stored}
use Rattle.yf_events.proofs.packing.kept.Goals as goal

pub returns-then-lacks : goal.returns-then-lacks
returns-then-lacks c = record { grown = same_table _; kept = not_stored _ _ c.if-lacks.ensures }

pub returns-in_err-push : goal.returns-in_err-push
returns-in_err-push c =
    let p = err_from_is_err_and c.from_residual.result c.from_residual.ensures.1 in
    record { grown = rw c.in_err-push.ensures.items (same_table _); kept = rw p.1 tt }

pub returns : goal.returns
returns c = record {
  grown = record { added = _; is = c.in_ok-push.ensures.items };
  kept =
      IfOk-weaker c.narrow.result _ (λ n. InTable _ n _) (λ n e. stored _ _ _ n c.in_ok-push.ensures.items (e ∙ c.len.ensures ∙ c.push.new.self.ok.0)) c.narrow.ensures;
}
