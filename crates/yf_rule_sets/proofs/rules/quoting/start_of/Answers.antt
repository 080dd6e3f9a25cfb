use Rattle.yf_props.specs.Props.{props_value}
use Rattle.yf_rule_sets.proofs.RuleSets.MarkPassLemmas.{scalar_event}
use Rattle.yf_rule_sets.proofs.Texts.ScalarLemmas.{no_scalar_lines, no_text_lines}
use Rattle.yf_rule_sets.proofs.RuleSets.StyleLemmas.{no_start, start_told}
use Rattle.yf_rule_sets.proofs.rules.quoting.start_of.Goals as goal

pub returns-in-Some : goal.returns-in-Some
returns-in-Some c =
    let r = c.args.reading.now in
    let w = c.in-Scalar in
    start_told c.args.src.now.text c.text.result.now r c.args.i (props_value w.props) w.style w.text.now c.in-Some.span c.content_start.result
    (record { event = scalar_event r c.args.i c.event.result w.props w.style w.text c.event.ensures w.is; part = c.in-Some.ensures })
    c.text.ensures c.content_start.ensures

pub returns-in-None : goal.returns-in-None
returns-in-None c = no_start (no_text_lines c.args.src.now c.args.reading.now c.args.i c.in-None.ensures)

pub returns-in_default : goal.returns-in_default
returns-in_default c = no_start (no_scalar_lines c.args.src.now c.args.reading.now c.args.i c.event.result c.event.ensures c.in_default.not-Scalar)
