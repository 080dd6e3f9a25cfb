use Rattle.std.proofs.Common.{◌++◌, refl, ap, map}
use Rattle.serde_json.specs.View.{view}
use Rattle.yf_server.proofs.StepLemmas.{all_answered, all_known, answers_more, knows_more, steps_all, steps_more, steps_none}
use Rattle.yf_server.specs.Steps.{response_ids, wanted_ids}
use Rattle.yf_server.proofs.step.run.Goals as goal

pub loop-value-init : goal.loop-value-init
loop-value-init g c = record {
  steps = steps_none (g.A.Analysis.claim c.args.analysis.now) c.args.server.now c.new-sent.result.items
      c.new-sent.ensures.items;
  known = λ uri. refl;
  answered = ap (λ z. response_ids (map view z) ++ wanted_ids (map view c.args.received.now)) c.new-sent.ensures.items;
}

pub loop-value-preserved : goal.loop-value-preserved
loop-value-preserved g c = record {
  steps = steps_more (g.A.Analysis.claim c.args.analysis.now) c.args.server.now c.loop-value.server
      c.step.new.server c.args.received.now c.loop-value.sent.items c.push_any.new.sent.items c.loop-value.value-index
      c.value-item.result c.in_ok-reaction.reaction c.loop-value-test.true c.value-item.is c.loop-value.invariant.steps
      c.in_ok-reaction.ensures.done c.in_ok-push_any.ensures;
  known = λ uri. knows_more uri c.loop-value.server c.step.new.server c.args.received.now c.loop-value.value-index
      c.value-item.result _ c.loop-value-test.true c.value-item.is (c.in_ok-reaction.ensures.done.knows uri)
      (c.loop-value.invariant.known uri);
  answered = answers_more c.loop-value.sent.items c.push_any.new.sent.items c.in_ok-reaction.reaction.message
      c.args.received.now c.loop-value.value-index c.value-item.result _ c.loop-value-test.true c.value-item.is
      c.in_ok-reaction.ensures.done.answers c.in_ok-push_any.ensures c.loop-value.invariant.answered;
}

pub returns : goal.returns
returns g c = record {
  steps = steps_all (g.A.Analysis.claim c.args.analysis.now) c.args.server.now c.loop-value.server
      c.args.received.now (map view c.loop-value.sent.items) c.loop-value.value-index c.loop-value-test.false
      c.loop-value.invariant.steps;
  knows = λ uri. all_known uri _ _ c.args.received.now c.loop-value.value-index c.loop-value-test.false
      (c.loop-value.invariant.known uri);
  answers = all_answered c.loop-value.sent.items _ c.args.received.now c.loop-value.value-index c.loop-value-test.false
      c.loop-value.invariant.answered;
}
