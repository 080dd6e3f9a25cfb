use Rattle.std.proofs.Common.{◌∙◌, Some, ap, sym}
use Rattle.yf_rules.specs.Runs.ByteStream.{stream_of}
use Rattle.yf_program.proofs.ProgramLemmas.{settings_or_unset}
use Rattle.yf_program.proofs.with_settings.settings_set.Goals as goal

pub returns-clause-set : goal.returns-clause-set
returns-clause-set g c =
    settings_or_unset (g.I.Inputs.claim c.args.inputs.now) c.args.config.now c.as_str.result.now (c.in-Some.is ∙ ap (λ n. Some n) (sym c.as_str.ensures))
    (stream_of g.I.File.Read.remaining g.I.File.Source.has_failed c.in-Ok.file)
    (stream_of g.I.File.Read.remaining g.I.File.Source.has_failed c.read_settings.new.reader) c.read_settings.result
    (c.in-Ok.ensures.bytes, c.in-Ok.ensures.works, λ told. c.in-Ok.ensures.reads told c.read_settings.new.reader) c.read_settings.ensures
