use Rattle.std.proofs.Common.{◌≡◌, ◌∙◌, ap, false, rules}
use Rattle.std.specs.Str.{chars}
use Rattle.yf_rules.specs.Runs.ByteStream.{stream_of}
use Rattle.yf_program.proofs.FurtherLemmas.{page_written, reached_by}
use Rattle.yf_program.proofs.further.tell_page.Goals as goal

pub returns : goal.returns
returns g c =
    let works : g.E.Sink.has_failed c.args.error_stream.now ≡ false = search rules in
    page_written c.args.page.now c.in-Ok.page c.as_bytes.result.now c.in-Ok.is (ap chars c.as_bytes.ensures.value ∙ c.as_str.ensures.text) c.as_str.ensures.written works
    (reached_by (stream_of g.E.Write.contents g.E.Sink.has_failed c.args.error_stream.now) (stream_of g.E.Write.contents g.E.Sink.has_failed c.write_text.new.writer) c.write_text.result c.write_text.ensures)
