use Rattle.std.proofs.Common.{◌≡◌}
use Rattle.std.proofs.lemmas.Result.{IfOk-weaker, on_err_weaker}
use Rattle.std.specs.Prelude.{option_map}
use Rattle.yf_command_line.specs.declared.command.Input.TheVariants.{Standard}
use Rattle.yf_rules.specs.Runs.ByteStream.{stream_of}
use Rattle.yf_program.specs.Guarded.{is_judged}
use Rattle.yf_program.specs.Reports.{state_in}
use Rattle.yf_program.proofs.ReportLemmas.{opened_given, stops_opened}
use Rattle.yf_program.proofs.report_inputs.give_input.Goals as goal

pub returns-in-Standard-clause-gives : goal.returns-in-Standard-clause-gives
returns-in-Standard-clause-gives g c =
    let before = state_in g.I.Inputs.opened c.args.inputs.now c.args.files.now.items (stream_of g.E.Write.contents g.E.Sink.has_failed c.args.error_stream.now) in
    let after = state_in g.I.Inputs.opened c.open_standard-reader.new.self c.give_reader.new.files.items (stream_of g.E.Write.contents g.E.Sink.has_failed c.give_reader.new.error_stream) in
    let judged : c.is_judged-judges.result ≡ is_judged c.args.scope.now Standard = rw c.in-Standard.is at c.is_judged-judges.ensures in
    rw c.in-Standard.is
    (IfOk-weaker c.give_reader.result _ _
    (λ status given. opened_given (g.I.Inputs.claim c.args.inputs.now) c.args.scope.now c.args.task.now Standard status before after
    (stream_of g.I.Standard.Read.remaining g.I.Standard.Source.has_failed c.open_standard-reader.result)
    (stream_of g.I.Standard.Read.remaining g.I.Standard.Source.has_failed c.give_reader.new.reader)
    c.is_judged-judges.result (option_map (λ n. n.now) c.standard_name-name.result) judged c.standard_name-name.ensures
    c.open_standard-reader.ensures.opened
    (c.open_standard-reader.ensures.bytes, c.open_standard-reader.ensures.works, λ told. c.open_standard-reader.ensures.reads told c.give_reader.new.reader)
    given)
    c.give_reader.ensures.gives)

pub returns-in-Standard-clause-gives_up : goal.returns-in-Standard-clause-gives_up
returns-in-Standard-clause-gives_up g c =
    let before = state_in g.I.Inputs.opened c.args.inputs.now c.args.files.now.items (stream_of g.E.Write.contents g.E.Sink.has_failed c.args.error_stream.now) in
    let after = state_in g.I.Inputs.opened c.open_standard-reader.new.self c.give_reader.new.files.items (stream_of g.E.Write.contents g.E.Sink.has_failed c.give_reader.new.error_stream) in
    rw c.in-Standard.is
    (on_err_weaker c.give_reader.result
    (stops_opened (g.I.Inputs.claim c.args.inputs.now) c.args.scope.now c.args.task.now Standard 0 before after c.open_standard-reader.ensures.opened)
    c.give_reader.ensures.gives_up)

pub returns-in-File-clause-gives : goal.returns-in-File-clause-gives
returns-in-File-clause-gives g c = rw (c.in-File.is, ← c.as_str.ensures) c.give_file.ensures.gives

pub returns-in-File-clause-gives_up : goal.returns-in-File-clause-gives_up
returns-in-File-clause-gives_up g c = rw (c.in-File.is, ← c.as_str.ensures) c.give_file.ensures.gives_up
