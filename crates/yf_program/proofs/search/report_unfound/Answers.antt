use Rattle.yf_lines.specs.declared.fault.Fault.TheVariants.{ReadFailed}
use Rattle.yf_rules.specs.Runs.ByteStream.{stream_of}
use Rattle.yf_program.specs.Run.{EndsByLine}
use Rattle.yf_host.specs.Report.{named_fault}
use Rattle.yf_program.proofs.search.report_unfound.Goals as goal

pub returns-in-Unreadable : goal.returns-in-Unreadable
returns-in-Unreadable g c =
    let told = stream_of g.E.Write.contents g.E.Sink.has_failed c.report_named-status.new.error_stream in
    let ends : EndsByLine c.args.explain (named_fault c.as_str-name.result.now ReadFailed) ReadFailed c.report_named-status.result (stream_of g.E.Write.contents g.E.Sink.has_failed c.args.error_stream.now) (stream_of g.E.Write.contents g.E.Sink.has_failed c.tell_file.new.error_stream) =
    (told, c.report_named-status.ensures.status, c.report_named-status.ensures.line, c.tell_file.ensures) in
    rw (c.in-Unreadable.is, ← c.as_str-name.ensures) ends
