use Rattle.std.proofs.Common.{◌∙◌, sym}
use Rattle.yf_props.specs.Props.{props_value}
use Rattle.yf_rule_sets.proofs.RuleSets.MarkPassLemmas.{scalar_event}
use Rattle.yf_rule_sets.proofs.rules.indentation.is_quiet.Goals as goal
use Rattle.yf_chars.proofs.Tests.{turned_false as not_true}

pub returns-in-Scalar : goal.returns-in-Scalar
returns-in-Scalar c = λ e.
    let w = c.in-Scalar in
    record {
      props = props_value w.props;
      style = w.style;
      text = w.text.now;
      event = scalar_event c.args.reading.now c.args.i c.event.result w.props w.style w.text c.event.ensures w.is;
      other = sym c.is_block_style.ensures ∙ not_true c.is_block_style.result e;
    }
