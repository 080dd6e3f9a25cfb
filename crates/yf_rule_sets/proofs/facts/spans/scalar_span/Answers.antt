use Rattle.yf_props.specs.Props.{props_value}
use Rattle.yf_rule_sets.proofs.RuleSets.MarkPassLemmas.{scalar_event, span_answers}
use Rattle.yf_rule_sets.proofs.facts.spans.scalar_span.Goals as goal

pub returns-in-Scalar : goal.returns-in-Scalar
returns-in-Scalar c =
    let w = c.in-Scalar in
    span_answers c.args.reading.now c.args.i (props_value w.props) w.style w.text.now c.span.result
    (scalar_event c.args.reading.now c.args.i c.event.result w.props w.style w.text c.event.ensures w.is) c.span.ensures
