use Rattle.std.specs.Prelude.{string_bytes}
use Rattle.yf_parts.specs.PartRun.{IsPart}
use Rattle.yf_rules.specs.Headline.{Headline}
use Rattle.yf_stream.specs.StreamReader.{for_memory}
use Rattle.yf_host.proofs.FilesLemmas.{given_bytes, refuses_bytes}
use Rattle.yf_host.proofs.files.NewTextFormatter.format.Goals as goal

pub returns-then-bytes-gt-INPUT_LIMIT-clause-refuses : goal.returns-then-bytes-gt-INPUT_LIMIT-clause-refuses
returns-then-bytes-gt-INPUT_LIMIT-clause-refuses c = (c.in-Ok.ensures.0, tt, for_memory)

pub returns-in-Formatted-clause-formats : goal.returns-in-Formatted-clause-formats
returns-in-Formatted-clause-formats c = rw c.in-Formatted.is (given_bytes c.in-Ok.text.now c.args.bytes.now c.in-Ok.ensures.1 c.in-Ok.ensures.0 c.format.result
    (λ t text. Headline t c.in-Formatted.style.now (string_bytes text)) c.format.ensures.headline)

pub returns-in-Formatted-clause-refuses : goal.returns-in-Formatted-clause-refuses
returns-in-Formatted-clause-refuses c = refuses_bytes c.in-Ok.text.now c.args.bytes.now c.in-Ok.ensures.1 c.in-Ok.ensures.0 c.format.result c.format.ensures.refuses

pub returns-in-Part-clause-formats : goal.returns-in-Part-clause-formats
returns-in-Part-clause-formats c = rw c.in-Part.is (given_bytes c.in-Ok.text.now c.args.bytes.now c.in-Ok.ensures.1 c.in-Ok.ensures.0 c.with_lines_formatted.result
    (λ t text. IsPart c.in-Part.style.now c.in-Part.lines.now t (string_bytes text)) c.with_lines_formatted.ensures.part)

pub returns-in-Part-clause-refuses : goal.returns-in-Part-clause-refuses
returns-in-Part-clause-refuses c = refuses_bytes c.in-Ok.text.now c.args.bytes.now c.in-Ok.ensures.1 c.in-Ok.ensures.0 c.with_lines_formatted.result c.with_lines_formatted.ensures.refuses
