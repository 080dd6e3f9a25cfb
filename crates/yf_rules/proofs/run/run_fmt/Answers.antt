use Rattle.std.proofs.Common.{◌∙◌}
use Rattle.yf_rules.specs.Runs.ByteStream.{stream_of}
use Rattle.yf_rules.proofs.Runs.FormattedLemmas.{broke_formatted, wrote_formatted}
use Rattle.yf_rules.proofs.run.run_fmt.Goals as goal

pub returns-clause-formatted : goal.returns-clause-formatted
returns-clause-formatted g c =
    wrote_formatted _ (stream_of g.R.Read.remaining g.R.Source.has_failed c.args.reader.now) _ _ _ _ c.write_text.result c.in_ok-formatted.ensures.formatted (c.as_bytes.ensures.value ∙ c.as_str.ensures.value) c.write_text.ensures

pub returns-clause-refusals : goal.returns-clause-refusals
returns-clause-refusals g c =
    broke_formatted _ (stream_of g.R.Read.remaining g.R.Source.has_failed c.args.reader.now) _ _ _ _ _ c.write_text.result c.in_ok-formatted.ensures.formatted (c.as_bytes.ensures.value ∙ c.as_str.ensures.value)
    c.in_ok-formatted.ensures.reader c.write_text.ensures
