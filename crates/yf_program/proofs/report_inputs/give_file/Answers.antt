use Rattle.std.proofs.Common.{Some, not, refl}
use Rattle.std.proofs.lemmas.Result.{IfOk-weaker, on_err_weaker}
use Rattle.yf_command_line.specs.declared.command.Input.TheVariants.{File}
use Rattle.yf_rules.specs.Runs.ByteStream.{stream_of}
use Rattle.yf_program.specs.Reports.{state_in}
use Rattle.yf_program.proofs.ReportLemmas.{opened_given, stops_opened, unopened_given}
use Rattle.yf_program.proofs.report_inputs.give_file.Goals as goal

pub returns-in-Ok-clause-gives : goal.returns-in-Ok-clause-gives
returns-in-Ok-clause-gives g c =
    let before = state_in g.I.Inputs.opened c.args.inputs.now c.args.files.now.items (stream_of g.E.Write.contents g.E.Sink.has_failed c.args.error_stream.now) in
    let after = state_in g.I.Inputs.opened c.open_file.new.self c.give_reader.new.files.items (stream_of g.E.Write.contents g.E.Sink.has_failed c.give_reader.new.error_stream) in
    IfOk-weaker c.give_reader.result _ _
    (λ status given. opened_given (g.I.Inputs.claim c.args.inputs.now) c.args.scope.now c.args.task.now (File c.args.name.now) status before after
    (stream_of g.I.File.Read.remaining g.I.File.Source.has_failed c.in-Ok.reader)
    (stream_of g.I.File.Read.remaining g.I.File.Source.has_failed c.give_reader.new.reader)
    (not c.args.scope.now.any_text) (Some c.args.name.now) refl refl
    c.open_file.ensures.opened
    (c.in-Ok.ensures.bytes, c.in-Ok.ensures.works, λ told. c.in-Ok.ensures.reads told c.give_reader.new.reader)
    given)
    c.give_reader.ensures.gives

pub returns-in-Ok-clause-gives_up : goal.returns-in-Ok-clause-gives_up
returns-in-Ok-clause-gives_up g c =
    let before = state_in g.I.Inputs.opened c.args.inputs.now c.args.files.now.items (stream_of g.E.Write.contents g.E.Sink.has_failed c.args.error_stream.now) in
    let after = state_in g.I.Inputs.opened c.open_file.new.self c.give_reader.new.files.items (stream_of g.E.Write.contents g.E.Sink.has_failed c.give_reader.new.error_stream) in
    on_err_weaker c.give_reader.result
    (stops_opened (g.I.Inputs.claim c.args.inputs.now) c.args.scope.now c.args.task.now (File c.args.name.now) 0 before after c.open_file.ensures.opened)
    c.give_reader.ensures.gives_up

pub returns-in-Err-clause-gives : goal.returns-in-Err-clause-gives
returns-in-Err-clause-gives g c =
    let before = state_in g.I.Inputs.opened c.args.inputs.now c.args.files.now.items (stream_of g.E.Write.contents g.E.Sink.has_failed c.args.error_stream.now) in
    let after = state_in g.I.Inputs.opened c.open_file.new.self c.give_unopened.new.files.items (stream_of g.E.Write.contents g.E.Sink.has_failed c.give_unopened.new.error_stream) in
    IfOk-weaker c.give_unopened.result _ _
    (λ status d. unopened_given (g.I.Inputs.claim c.args.inputs.now) c.args.scope.now c.args.task.now (File c.args.name.now) status before after
    c.in-Err.fault c.in-Err.ensures.fault c.open_file.ensures.opened tt c.in-Err.ensures.fails d.1 d.0)
    c.give_unopened.ensures.gives

pub returns-in-Err-clause-gives_up : goal.returns-in-Err-clause-gives_up
returns-in-Err-clause-gives_up g c =
    let before = state_in g.I.Inputs.opened c.args.inputs.now c.args.files.now.items (stream_of g.E.Write.contents g.E.Sink.has_failed c.args.error_stream.now) in
    let after = state_in g.I.Inputs.opened c.open_file.new.self c.give_unopened.new.files.items (stream_of g.E.Write.contents g.E.Sink.has_failed c.give_unopened.new.error_stream) in
    on_err_weaker c.give_unopened.result
    (stops_opened (g.I.Inputs.claim c.args.inputs.now) c.args.scope.now c.args.task.now (File c.args.name.now) 0 before after c.open_file.ensures.opened)
    c.give_unopened.ensures.gives_up
