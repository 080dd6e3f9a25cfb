use Rattle.std.proofs.Common.{List, None, Some, ℕ, inl, inr, refl, subst, sym}
use Rattle.yf_rules.specs.Runs.Run.{Keeps}
use Rattle.yf_program.proofs.FurtherLemmas.{told_nothing}
use Rattle.yf_program.proofs.judged.check_past.Goals as goal

pub returns-in-Ok-None : goal.returns-in-Ok-None
returns-in-Ok-None g c =
    let run = rw c.in-Ok-None.field-0-is at c.in-Ok-None.ensures.checked in
    rw (← c.streams.view_is) (inl (None, run, c.in-Ok-None.ensures.reader, (c.report_left.ensures.status, c.report_left.ensures.line)))

pub returns-in-Ok-Some-false : goal.returns-in-Ok-Some-false
returns-in-Ok-Some-false g c =
    let run = rw c.in-Ok-Some-false.field-0-is at c.in-Ok-Some-false.ensures.checked in
    rw (← c.streams.view_is)
    (inl (Some c.in-Ok-Some-false.field-0-0, run, c.in-Ok-Some-false.ensures.reader, (rw c.in-Ok-Some-false.field-0-0-test refl, told_nothing c.args.task.now.explain _ _)))

pub returns-in-Ok-Some-true : goal.returns-in-Ok-Some-true
returns-in-Ok-Some-true g c =
    let run = rw c.in-Ok-Some-true.field-0-is at c.in-Ok-Some-true.ensures.checked in
    rw (← c.streams.view_is)
    (inl (Some c.in-Ok-Some-true.field-0-0, run, c.in-Ok-Some-true.ensures.reader, (rw c.in-Ok-Some-true.field-0-0-test refl, c.tell_findings.ensures)))

pub returns : goal.returns
returns g c =
    let keeps = subst (λ (b : List ℕ). Keeps (g.R.Read.remaining c.args.reader.now) b c.in-Err.fault) (sym c.as_slice-in-Err.ensures.value) c.in-Err.ensures.bytes in
    rw (← c.streams.view_is) (inr (c.in-Err.fault, c.in-Err.ensures.refusals, (c.as_slice-in-Err.result.now, keeps, c.report_input.ensures)))
