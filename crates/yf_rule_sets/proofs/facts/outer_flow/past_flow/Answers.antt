use Rattle.yf_rule_sets.proofs.Texts.FlowLemmas.{alone_done, flow_done, inner_passed, no_flow_done}
use Rattle.yf_rule_sets.proofs.facts.outer_flow.past_flow.Goals as goal

pub returns-then-i-done : goal.returns-then-i-done
returns-then-i-done c = record {
  measured = λ t s trees of measured d. inner_passed c.args.reading.now trees c.args.i c.args.done of d c.if-i-done.true;
  alone = λ t s trees of measured d. inner_passed c.args.reading.now trees c.args.i c.args.done of d c.if-i-done.true;
}

pub returns-then-starts_flow : goal.returns-then-starts_flow
returns-then-starts_flow c = record {
  measured = λ t s trees of measured d.
      flow_done c.args.reading.now trees c.args.i c.args.done c.starts_flow.result c.at.result c.requires of measured d c.if-i-done.false c.starts_flow.ensures c.if-starts_flow.true c.at.ensures;
  alone = λ t s trees of measured d.
      alone_done c.args.reading.now trees c.args.i c.args.done c.starts_flow.result c.at.result c.requires of measured d c.if-i-done.false c.starts_flow.ensures c.if-starts_flow.true c.at.ensures;
}

pub returns : goal.returns
returns c = record {
  measured = λ t s trees of measured d. no_flow_done c.args.reading.now c.args.i c.args.done c.starts_flow.result c.requires d c.if-i-done.false c.starts_flow.ensures c.if-starts_flow.false;
  alone = λ t s trees of measured d. no_flow_done c.args.reading.now c.args.i c.args.done c.starts_flow.result c.requires d c.if-i-done.false c.starts_flow.ensures c.if-starts_flow.false;
}
