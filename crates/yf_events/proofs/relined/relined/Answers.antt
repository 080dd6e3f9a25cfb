use Rattle.std.proofs.Common.{ap, ◌∙◌}
use Rattle.std.proofs.lemmas.Result.{IfOk-weaker, err_from_is_err_and}
use Rattle.yf_events.specs.EventForms.{LinesDropped}
use Rattle.yf_events.specs.Packed.{folded_in, more_value}
use Rattle.yf_events.proofs.FormedRows.{lines_absent, lines_kept, lines_taken, no_lines}
use Rattle.yf_events.proofs.PackedRows.{same_table}
use Rattle.yf_events.proofs.relined.relined.Goals as goal

pub returns-then-keeps : goal.returns-then-keeps
returns-then-keeps c = record { grown = same_table _; relined = lines_kept _ _ _ c.if-keeps.true c.requires }

pub returns-in_default : goal.returns-in_default
returns-in_default c = record {
  grown = same_table _;
  relined =
      lines_absent _ _ _ _ (more_value c.more_in.result) c.as_slice.ensures.value c.more_in.ensures (ap (λ m. folded_in (more_value m)) c.in_default.is) c.requires;
}

pub returns-then-is_empty : goal.returns-then-is_empty
returns-then-is_empty c = record {
  grown = same_table _;
  relined =
      lines_absent _ _ _ _ (more_value c.more_in.result) c.as_slice.ensures.value c.more_in.ensures
      (ap (λ m. folded_in (more_value m)) c.in-Some.is ∙ no_lines _ _ _ c.as_slice-2.ensures c.is_empty.ensures c.if-is_empty.true) c.requires;
}

pub returns-in_err-bare : goal.returns-in_err-bare
returns-in_err-bare c =
    let p = err_from_is_err_and c.from_residual.result c.from_residual.ensures.1 in
    record { grown = same_table _; relined = rw p.1 tt }

pub returns-in_err-push : goal.returns-in_err-push
returns-in_err-push c =
    let p = err_from_is_err_and c.from_residual-in_err-push.result c.from_residual-in_err-push.ensures.1 in
    record { grown = rw c.in_err-push.ensures.items (same_table _); relined = rw p.1 tt }

pub returns : goal.returns
returns c = record {
  grown = record { added = _; is = c.in_ok-push.ensures.items };
  relined =
      IfOk-weaker c.narrow.result _ (LinesDropped _ _ _ _)
      (λ n e. lines_taken _ _ _ _ _ n (more_value c.more_in.result) c.in-Some.more.now c.in_ok-bare.bare c.as_slice.ensures.value c.more_in.ensures (ap more_value c.in-Some.is)
      c.in_ok-bare.ensures c.in_ok-push.ensures.items c.if-keeps.false (e ∙ c.len.ensures ∙ c.push.new.self.ok.0)) c.narrow.ensures;
}
