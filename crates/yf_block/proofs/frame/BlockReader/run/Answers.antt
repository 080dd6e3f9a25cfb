use Rattle.yf_block.proofs.Runs.RunLemmas.{ready_anywhere}
use Rattle.yf_block.proofs.frame.BlockReader.run.Goals as goal

pub steps-preserved-in_ok-step-in-Node : goal.steps-preserved-in_ok-step-in-Node
steps-preserved-in_ok-step-in-Node c =
    let v = c.steps.invariant in
    let q = c.in_ok-step-in-Node.ensures in
    record {
      progress = q.stepped.progress;
      ready = ready_anywhere c.args.scope.text.now c.in-Node.at c.in_ok-step-in-Node.step q.stepped.ready;
      escapes = q.stepped.escapes;
      tied = λ d root before j r a. q.tied d root before j r (rw c.in-Node.is at (v.tied d root before j r a));
      counted = λ u total a. q.counted u total (rw c.in-Node.is at (v.counted u total a));
    }

pub steps-preserved-in_ok-step-in-Line : goal.steps-preserved-in_ok-step-in-Line
steps-preserved-in_ok-step-in-Line c =
    let v = c.steps.invariant in
    let q = c.in_ok-step-in-Line.ensures in
    record {
      progress = q.stepped.progress;
      ready = ready_anywhere c.args.scope.text.now c.in-Line.at c.in_ok-step-in-Line.step q.stepped.ready;
      escapes = q.stepped.escapes;
      tied = λ d root before j r a. q.tied d root before j r (rw c.in-Line.is at (v.tied d root before j r a));
      counted = λ u total a. q.counted u total (rw c.in-Line.is at (v.counted u total a));
    }

pub steps-preserved : goal.steps-preserved
steps-preserved c =
    let v = c.steps.invariant in
    let q = c.in_ok-step-in-Resume.ensures in
    record {
      progress = q.stepped.progress;
      ready = ready_anywhere c.args.scope.text.now c.in-Resume.at c.in_ok-step-in-Resume.step q.stepped.ready;
      escapes = q.stepped.escapes;
      tied = λ d root before j r a. q.tied d root before j r (rw c.in-Resume.is at (v.tied d root before j r a));
      counted = λ u total a. q.counted u total (rw c.in-Resume.is at (v.counted u total a));
    }

pub returns-in-Done-clause-tied : goal.returns-in-Done-clause-tied
returns-in-Done-clause-tied c = λ d root before j q a. rw c.in-Done.is at (c.steps.invariant.tied d root before j q a)

pub returns-in-Failed-clause-tied : goal.returns-in-Failed-clause-tied
returns-in-Failed-clause-tied c = λ d root before j q a. rw c.in-Failed.is at (c.steps.invariant.tied d root before j q a)

pub returns-in-TooDeep-clause-tied : goal.returns-in-TooDeep-clause-tied
returns-in-TooDeep-clause-tied c = λ d root before j q a. rw c.in-TooDeep.is at (c.steps.invariant.tied d root before j q a)

pub returns-in-Done-clause-counted : goal.returns-in-Done-clause-counted
returns-in-Done-clause-counted c = λ u total q. tt

pub returns-in-Failed-clause-counted : goal.returns-in-Failed-clause-counted
returns-in-Failed-clause-counted c = λ u total q. tt

pub returns-in-TooDeep-clause-counted : goal.returns-in-TooDeep-clause-counted
returns-in-TooDeep-clause-counted c = λ u total q. rw c.in-TooDeep.is at (c.steps.invariant.counted u total q)

pub take_node-requires : goal.take_node-requires
take_node-requires c = let v = c.steps.invariant in let p = rw c.in-Node.is at v.ready in record { boundary = p.boundary; progress = v.progress; escapes = v.escapes }

pub take_line-requires : goal.take_line-requires
take_line-requires c = let v = c.steps.invariant in let p = rw c.in-Line.is at v.ready in record { boundary = p.boundary; progress = v.progress; escapes = v.escapes }

pub resume-requires : goal.resume-requires
resume-requires c = let v = c.steps.invariant in let p = rw c.in-Resume.is at v.ready in record { boundary = p.boundary; progress = v.progress; escapes = v.escapes }

pub returns-in-Done-clause-progress : goal.returns-in-Done-clause-progress
returns-in-Done-clause-progress c = c.steps.invariant.progress

pub returns-in-Failed-clause-progress : goal.returns-in-Failed-clause-progress
returns-in-Failed-clause-progress c = c.steps.invariant.progress

pub returns-in-TooDeep-clause-progress : goal.returns-in-TooDeep-clause-progress
returns-in-TooDeep-clause-progress c = c.steps.invariant.progress

pub returns-in-Done-clause-stop : goal.returns-in-Done-clause-stop
returns-in-Done-clause-stop c = rw c.in-Done.is at c.steps.invariant.ready

pub returns-in-Failed-clause-stop : goal.returns-in-Failed-clause-stop
returns-in-Failed-clause-stop c = rw c.in-Failed.is at c.steps.invariant.ready

pub returns-in-TooDeep-clause-stop : goal.returns-in-TooDeep-clause-stop
returns-in-TooDeep-clause-stop c = rw c.in-TooDeep.is at c.steps.invariant.ready

pub returns-in-Done-clause-escapes : goal.returns-in-Done-clause-escapes
returns-in-Done-clause-escapes c = c.steps.invariant.escapes

pub returns-in-Failed-clause-escapes : goal.returns-in-Failed-clause-escapes
returns-in-Failed-clause-escapes c = c.steps.invariant.escapes

pub returns-in-TooDeep-clause-escapes : goal.returns-in-TooDeep-clause-escapes
returns-in-TooDeep-clause-escapes c = c.steps.invariant.escapes
