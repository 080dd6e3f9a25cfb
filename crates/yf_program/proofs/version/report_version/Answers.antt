use Rattle.yf_rules.specs.Runs.ByteStream.{stream_of}
use Rattle.yf_program.proofs.FurtherLemmas.{reached_by}
use Rattle.yf_program.proofs.VersionLemmas.{version_refused}
use Rattle.yf_program.proofs.version.report_version.Goals as goal

pub returns : goal.returns
returns g c =
    version_refused c.args.required.now c.in-Versions.requirement c.as_str.result.now
    (stream_of g.E.Write.contents g.E.Sink.has_failed c.args.error_stream.now)
    (stream_of g.E.Write.contents g.E.Sink.has_failed c.write_version_line.new.stream)
    c.in-Versions.is c.requires c.as_str.ensures (reached_by _ _ c.write_version_line.result c.write_version_line.ensures)
