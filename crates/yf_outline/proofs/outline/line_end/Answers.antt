use Rattle.std.proofs.Common.{◌∙◌, ap, sym}
use Rattle.yf_outline.specs.WhiteSpace.{is_break}
use Rattle.yf_outline.proofs.LineLemmas.{line_more}
use Rattle.yf_outline.proofs.outline.line_end.Goals as goal

pub loop-at-preserved : goal.loop-at-preserved
loop-at-preserved c = line_more c.args.text.now c.loop-at.at c.args.end c.loop-at-test.true
    (ap is_break (sym c.byte_at.ensures) ∙ sym c.is_break.ensures ∙ c.if-is_break.false) ∙ c.loop-at.invariant
