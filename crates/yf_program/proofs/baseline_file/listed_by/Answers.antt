use Rattle.std.proofs.Common.{◌∙◌, Some, ap, sym}
use Rattle.yf_rules.specs.Runs.ByteStream.{stream_of}
use Rattle.yf_program.proofs.BaselineLemmas.{taken_by, untaken_by}
use Rattle.yf_program.proofs.baseline_file.listed_by.Goals as goal

pub returns-in-Ok-read_listed-clause-taken : goal.returns-in-Ok-read_listed-clause-taken
returns-in-Ok-read_listed-clause-taken g c =
    taken_by (g.I.Inputs.claim c.args.inputs.now) c.args.baseline.now c.as_str.result.now (c.in-Some.is ∙ ap (λ n. Some n) (sym c.as_str.ensures))
    (stream_of g.I.File.Read.remaining g.I.File.Source.has_failed c.in-Ok.file)
    (stream_of g.I.File.Read.remaining g.I.File.Source.has_failed c.read_listed.new.reader) c.in-Ok-read_listed.listed
    (c.in-Ok.ensures.bytes, c.in-Ok.ensures.works, λ told. c.in-Ok.ensures.reads told c.read_listed.new.reader) c.in-Ok-read_listed.ensures

pub returns-clause-taken : goal.returns-clause-taken
returns-clause-taken g c =
    untaken_by (g.I.Inputs.claim c.args.inputs.now) c.args.baseline.now c.as_str.result.now (c.in-Some.is ∙ ap (λ n. Some n) (sym c.as_str.ensures))
    (stream_of g.I.File.Read.remaining g.I.File.Source.has_failed c.in-Ok.file)
    (stream_of g.I.File.Read.remaining g.I.File.Source.has_failed c.read_listed.new.reader) c.in-Err-read_listed.why
    (c.in-Ok.ensures.bytes, c.in-Ok.ensures.works, λ told. c.in-Ok.ensures.reads told c.read_listed.new.reader) c.in-Err-read_listed.ensures
