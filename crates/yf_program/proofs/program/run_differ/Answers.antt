use Rattle.std.proofs.Common.{List, ℕ, inr, subst, sym}
use Rattle.yf_rules.specs.Runs.ByteStream.{stream_of}
use Rattle.yf_rules.specs.Runs.Run.{Keeps}
use Rattle.yf_program.proofs.ProgramLemmas.{no_diff}
use Rattle.yf_program.proofs.program.run_differ.Goals as goal

pub returns-in-Ok-true : goal.returns-in-Ok-true
returns-in-Ok-true g c = rw (← c.streams.view_is)
    (no_diff c.args.name.now c.args.task.now (stream_of g.R.Read.remaining g.R.Source.has_failed c.args.reader.now) (stream_of g.R.Read.remaining g.R.Source.has_failed c.print_diff.new.reader)
    (stream_of g.W.Write.contents g.W.Sink.has_failed c.streams.inside.output) (stream_of g.W.Write.contents g.W.Sink.has_failed c.print_diff.new.writer) (stream_of g.E.Write.contents g.E.Sink.has_failed c.streams.inside.errors) c.in-Ok-true.field-0 c.in-Ok-true.field-0-test
    c.in-Ok-true.ensures.diffed c.in-Ok-true.ensures.clean c.in-Ok-true.ensures.reader)

pub returns : goal.returns
returns g c =
    let keeps = subst (λ (b : List ℕ). Keeps (g.R.Read.remaining c.args.reader.now) b c.in-Err.fault) (sym c.as_slice.ensures.value) c.in-Err.ensures.bytes in
    rw (← c.streams.view_is) (inr (c.in-Err.fault, c.in-Err.ensures.refusals, (c.as_slice.result.now, keeps, c.report_input.ensures)))
