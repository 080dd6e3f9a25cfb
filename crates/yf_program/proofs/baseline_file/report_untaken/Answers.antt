use Rattle.std.proofs.Common.{refl}
use Rattle.yf_host.specs.Ends.{AnyLines}
use Rattle.yf_rules.specs.Runs.ByteStream.{stream_of}
use Rattle.yf_program.proofs.FurtherLemmas.{reached_by, told_nothing}
use Rattle.yf_program.proofs.baseline_file.report_untaken.Goals as goal

pub returns-in-Unread : goal.returns-in-Unread
returns-in-Unread g c =
    let told = stream_of g.E.Write.contents g.E.Sink.has_failed c.report_named-status.new.error_stream in
    rw c.in-Unread.is (told, c.report_named-status.ensures.status, c.report_named-status.ensures.line, c.tell_file.ensures)

pub returns-in-Refused : goal.returns-in-Refused
returns-in-Refused g c =
    let told = stream_of g.E.Write.contents g.E.Sink.has_failed c.write_refused.new.stream in
    rw c.in-Refused.is (told, refl, reached_by _ _ c.write_refused.result c.write_refused.ensures, told_nothing c.args.explain AnyLines told)
