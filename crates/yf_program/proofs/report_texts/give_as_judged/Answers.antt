use Rattle.std.proofs.lemmas.Result.{IfOk-weaker}
use Rattle.std.specs.Prelude.{option_map}
use Rattle.yf_rules.specs.Runs.ByteStream.{stream_of}
use Rattle.yf_program.proofs.ReportLemmas.{passed_given}
use Rattle.yf_program.proofs.report_texts.give_as_judged.Goals as goal

pub returns-in-Passed-clause-gives : goal.returns-in-Passed-clause-gives
returns-in-Passed-clause-gives g c =
    rw c.in-Passed.is
    (IfOk-weaker c.give_text.result _ _
    (λ status d. passed_given c.args.task.now (option_map (λ n. n.now) c.args.name) status
    (stream_of g.E.Write.contents g.E.Sink.has_failed c.args.error_stream.now)
    (stream_of g.E.Write.contents g.E.Sink.has_failed c.give_text.new.error_stream)
    c.args.files.now.items c.give_text.new.files.items c.args.bytes.now c.give_text.new.reader.rest.now d)
    c.give_text.ensures.gives)

pub returns-in-Encrypted-clause-gives : goal.returns-in-Encrypted-clause-gives
returns-in-Encrypted-clause-gives g c = rw c.in-Encrypted.is c.give_encrypted.ensures.gives

pub returns-in-NoData-clause-gives : goal.returns-in-NoData-clause-gives
returns-in-NoData-clause-gives g c = rw c.in-NoData.is c.give_no_data.ensures.gives
