use Rattle.std.proofs.Common.{sym}
use Rattle.yf_props.specs.Props.{props_value}
use Rattle.yf_forms.specs.NormalForms.Measures.{is_one_line_style}
use Rattle.yf_forms.specs.Nodes.OneLine.{props_text, scalar_text}
use Rattle.yf_forms.proofs.Measure.StepLemmas.{styled_wide}
use Rattle.yf_forms.proofs.Texts.TreeTexts.{scalar_utf8}
use Rattle.yf_forms.proofs.form.ended.width_in_style.Goals as goal

pub returns-in-Some-clause-width : goal.returns-in-Some-clause-width
returns-in-Some-clause-width c =
    let style = c.args.style in
    styled_wide (props_text (props_value c.args.props.now)) (scalar_text c.args.house.now style c.args.text.now) (is_one_line_style style) c.props_width-before.result c.in-Some.width
    c.joined_width.result c.props_width-before.ensures.utf8 (scalar_utf8 c.args.house.now style c.args.text.now c.in-Some.ensures.utf8) c.props_width-before.ensures.width
    (sym c.in-Some.ensures.width) c.joined_width.ensures
