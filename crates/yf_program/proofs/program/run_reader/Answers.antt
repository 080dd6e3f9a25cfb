use Rattle.std.proofs.Common.{List, ℕ, inr, subst, sym}
use Rattle.yf_rules.specs.Runs.Run.{Keeps}
use Rattle.yf_program.proofs.program.run_reader.Goals as goal

pub returns : goal.returns
returns g c =
    let keeps = subst (λ (b : List ℕ). Keeps (g.R.Read.remaining c.args.reader.now) b c.in-Err.fault) (sym c.as_slice.ensures.value) c.in-Err.ensures.bytes in
    rw (← c.streams.view_is) (inr (c.in-Err.fault, c.in-Err.ensures.refusals, (c.as_slice.result.now, keeps, c.report_input.ensures)))
