use Rattle.std.proofs.Common.{sym, ◌∙◌}
use Rattle.yf_props.specs.Props.{props_value}
use Rattle.yf_rule_sets.specs.Passes.BlockLines.LinesOfBlock.{same_lines}
use Rattle.yf_rule_sets.proofs.RuleSets.MarkPassLemmas.{scalar_event}
use Rattle.yf_rule_sets.proofs.Texts.ScalarLemmas.{no_scalar_lines}
use Rattle.yf_rule_sets.proofs.Texts.ScalarPasses.{passed_style}
use Rattle.yf_rule_sets.proofs.facts.scalars.block_lines_at.Goals as goal

pub returns-then-is_block_style : goal.returns-then-is_block_style
returns-then-is_block_style c = same_lines c.scalar_lines_at.ensures

pub returns-else-is_block_style : goal.returns-else-is_block_style
returns-else-is_block_style c =
    let w = c.in-Scalar in
    passed_style c.args.src.now c.args.reading.now c.args.i (props_value w.props) w.style w.text.now
    (scalar_event c.args.reading.now c.args.i c.event.result w.props w.style w.text c.event.ensures w.is)
    (sym c.is_block_style.ensures ∙ c.if-is_block_style.false)

pub returns-in_default : goal.returns-in_default
returns-in_default c = same_lines (no_scalar_lines c.args.src.now c.args.reading.now c.args.i c.event.result c.event.ensures c.in_default.not-Scalar)
