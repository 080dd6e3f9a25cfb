use Rattle.std.proofs.Common.{List, ℕ, subst}
use Rattle.yf_rules.specs.Runs.ByteStream.{WrittenOrFailed, stream_of}
use Rattle.yf_program.specs.Settings.{settings_line}
use Rattle.yf_program.proofs.with_settings.report_unset.Goals as goal

pub returns : goal.returns
returns g c =
    let told = stream_of g.E.Write.contents g.E.Sink.has_failed c.report_line-status.new.error_stream in
    let line = subst (λ (n : List ℕ). WrittenOrFailed (stream_of g.E.Write.contents g.E.Sink.has_failed c.args.error_stream.now) told (settings_line c.args.in_force.now.is_nearest n c.args.fault.now)) c.name_or_empty-name.ensures c.report_line-status.ensures.line in
    (told, c.report_line-status.ensures.status, line, c.tell_settings.ensures)
