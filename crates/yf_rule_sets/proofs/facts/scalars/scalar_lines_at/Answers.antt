use Rattle.std.proofs.Common.{ap, ◌∙◌}
use Rattle.yf_forms.specs.Nodes.ContentStart.{content_start}
use Rattle.yf_props.specs.Props.{props_value}
use Rattle.yf_rule_sets.specs.RuleSets.Scalars.{IsScalar}
use Rattle.yf_rule_sets.proofs.Texts.BlockLemmas.{begun_there}
use Rattle.yf_rule_sets.proofs.RuleSets.MarkPassLemmas.{scalar_event}
use Rattle.yf_rule_sets.proofs.Texts.ScalarLemmas.{lines_told, no_scalar_lines, no_text_lines}
use Rattle.yf_rule_sets.proofs.facts.scalars.scalar_lines_at.Goals as goal

pub returns-in-Some : goal.returns-in-Some
returns-in-Some c =
    let v = c.args.src.now in
    let r = c.args.reading.now in
    let w = c.in-Scalar in
    let p = props_value w.props in
    let is : IsScalar r c.args.i p w.style w.text.now c.in-Some.span = record {
      event = scalar_event r c.args.i c.event.result w.props w.style w.text c.event.ensures w.is;
      part = c.in-Some.ensures;
    } in
    lines_told v r c.args.i p w.style w.text.now c.in-Some.span is c.lines_begun-first.result
    (begun_there v c.text.result.now c.in-Some.span p c.content_start-start.result c.lines_begun-first.result c.text.ensures c.content_start-start.ensures c.lines_begun-first.ensures.begun)
    c.content_start-start.result c.block_content.result
    (c.content_start-start.ensures ∙ ap (λ t. content_start t c.in-Some.span p) c.text.ensures) c.block_content.ensures

pub returns-in-None : goal.returns-in-None
returns-in-None c = no_text_lines c.args.src.now c.args.reading.now c.args.i c.in-None.ensures

pub returns-in_default : goal.returns-in_default
returns-in_default c = no_scalar_lines c.args.src.now c.args.reading.now c.args.i c.event.result c.event.ensures c.in_default.not-Scalar
