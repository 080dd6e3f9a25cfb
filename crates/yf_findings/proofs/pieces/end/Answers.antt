use Rattle.std.proofs.Common.{◌∙◌, ap, sym}
use Rattle.yf_findings.proofs.PieceLemmas.{end_chars}
use Rattle.yf_findings.specs.Pieces.{end}
use Rattle.yf_findings.specs.declared.pieces.Look.TheVariants.{Plain, Bold, Yellow, Green}
use Rattle.yf_findings.proofs.pieces.end.Goals as goal

pub returns-in-Plain : goal.returns-in-Plain
returns-in-Plain c = end_chars Plain ∙ ap end (sym c.in-Plain.is)

pub returns-in-Bold : goal.returns-in-Bold
returns-in-Bold c = end_chars Bold ∙ ap end (sym c.in-Bold.is)

pub returns-in-Yellow : goal.returns-in-Yellow
returns-in-Yellow c = end_chars Yellow ∙ ap end (sym c.in-Yellow.is)

pub returns-in-Green : goal.returns-in-Green
returns-in-Green c = end_chars Green ∙ ap end (sym c.in-Green.is)
