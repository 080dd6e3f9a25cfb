use Rattle.std.proofs.Common.{◌∙◌}
use Rattle.yf_findings.proofs.EscapeLemmas.{full_text}
use Rattle.yf_findings.proofs.full.full_of.Goals as goal

pub returns : goal.returns
returns c =
    full_text c.text_of.result c.args.colored c.args.files.now c.as_slice.result.now (c.as_slice.ensures.value ∙ c.in_ok-pieces.ensures)
    c.text_of.ensures.utf8 c.text_of.ensures.text c.text_of.ensures.written
