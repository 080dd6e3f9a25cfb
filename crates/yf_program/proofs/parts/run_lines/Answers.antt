use Rattle.std.proofs.Common.{List, ℕ, inl, inr, refl, subst, sym}
use Rattle.yf_rules.specs.Runs.Run.{Keeps}
use Rattle.yf_program.proofs.parts.run_lines.Goals as goal

pub returns-in-Ok-true : goal.returns-in-Ok-true
returns-in-Ok-true g c = rw (← c.streams.view_is)
    (inl (c.in-Ok-true.field-0, c.in-Ok-true.ensures.done, c.in-Ok-true.ensures.reader, rw c.in-Ok-true.field-0-test refl, record { contents = refl; same = refl }))

pub returns-in-Ok-false : goal.returns-in-Ok-false
returns-in-Ok-false g c = rw (← c.streams.view_is)
    (inl (c.in-Ok-false.field-0, c.in-Ok-false.ensures.done, c.in-Ok-false.ensures.reader, rw c.in-Ok-false.field-0-test refl, record { contents = refl; same = refl }))

pub returns : goal.returns
returns g c =
    let keeps = subst (λ (b : List ℕ). Keeps (g.R.Read.remaining c.args.reader.now) b c.in-Err.fault) (sym c.as_slice.ensures.value) c.in-Err.ensures.bytes in
    rw (← c.streams.view_is) (inr (c.in-Err.fault, c.in-Err.ensures.refusals, (c.as_slice.result.now, keeps, c.report_input.ensures)))
