use Rattle.std.specs.Prelude.{option_map}
use Rattle.yf_rules.specs.Runs.ByteStream.{stream_of}
use Rattle.yf_program.proofs.ReportLemmas.{encrypted_given}
use Rattle.yf_program.proofs.report_texts.give_encrypted.Goals as goal

pub returns-in-Ok-clause-gives : goal.returns-in-Ok-clause-gives
returns-in-Ok-clause-gives g c =
    encrypted_given c.args.task.now (option_map (λ n. n.now) c.args.name) c.report_left.result
    (stream_of g.E.Write.contents g.E.Sink.has_failed c.args.error_stream.now)
    (stream_of g.E.Write.contents g.E.Sink.has_failed c.report_left.new.error_stream)
    c.args.files.now.items c.add.new.files.items c.args.bytes.now c.new.result.items c.new-2.result.items
    c.new.ensures.items
    c.new-2.ensures.items c.report_left.ensures.status c.report_left.ensures.line c.in-Ok.ensures
