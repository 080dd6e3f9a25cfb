use Rattle.yf_rules.specs.Runs.ByteStream.{stream_of}
use Rattle.yf_program.specs.Reports.{state_in}
use Rattle.yf_program.proofs.ReportLemmas.{named_given}
use Rattle.yf_program.proofs.reports.give_named.Goals as goal

pub returns-clause-gives : goal.returns-clause-gives
returns-clause-gives g c =
    let before = state_in g.I.Inputs.opened c.args.inputs.now c.args.files.now.items (stream_of g.E.Write.contents g.E.Sink.has_failed c.args.error_stream.now) in
    let after = state_in g.I.Inputs.opened c.give_scoped.new.inputs c.give_scoped.new.files.items (stream_of g.E.Write.contents g.E.Sink.has_failed c.tell_errors.new.error_stream) in
    named_given (g.I.Inputs.claim c.args.inputs.now) c.args.scope.now c.args.task.now c.args.input.now c.tell_errors.result before after
    c.in_ok-status.status _ _ c.name_of.result.now c.stream_in_memory-memory.ensures c.name_of.ensures
    c.tell_errors.ensures c.in_ok-status.ensures.gives
