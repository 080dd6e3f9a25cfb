use Rattle.std.proofs.Common.{◌∙◌, ap, sym}
use Rattle.yf_findings.proofs.PieceLemmas.{begin_chars}
use Rattle.yf_findings.specs.Pieces.{begin}
use Rattle.yf_findings.specs.declared.pieces.Look.TheVariants.{Plain, Bold, Yellow, Green}
use Rattle.yf_findings.proofs.pieces.begin.Goals as goal

pub returns-in-Plain : goal.returns-in-Plain
returns-in-Plain c = begin_chars Plain ∙ ap begin (sym c.in-Plain.is)

pub returns-in-Bold : goal.returns-in-Bold
returns-in-Bold c = begin_chars Bold ∙ ap begin (sym c.in-Bold.is)

pub returns-in-Yellow : goal.returns-in-Yellow
returns-in-Yellow c = begin_chars Yellow ∙ ap begin (sym c.in-Yellow.is)

pub returns-in-Green : goal.returns-in-Green
returns-in-Green c = begin_chars Green ∙ ap begin (sym c.in-Green.is)
