use Rattle.yf_flow.proofs.Ends.MachineLemmas.{ready_from, escapes_same}
use Rattle.yf_flow.proofs.frame.FlowReader.read_on.Goals as goal

pub returns-in-Done : goal.returns-in-Done
returns-in-Done c =
    let v = c.steps.invariant in
    record {
      tied = λ base r a. rw c.in-Done.is at (v.tied base r a);
      counted = λ total a. rw c.in-Done.is at (v.counted total a);
      found = rw c.in-Done.is at v.ready.step;
      escapes = v.escapes;
    }

pub returns-in-Failed : goal.returns-in-Failed
returns-in-Failed c =
    let v = c.steps.invariant in
    record { tied = λ base r a. rw c.in-Failed.is at (v.tied base r a); counted = λ total a. tt; found = tt; escapes = v.escapes }

pub returns-in-TooDeep : goal.returns-in-TooDeep
returns-in-TooDeep c =
    let v = c.steps.invariant in
    record {
      tied = λ base r a. rw c.in-TooDeep.is at (v.tied base r a);
      counted = λ total a. rw c.in-TooDeep.is at (v.counted total a);
      found = rw c.in-TooDeep.is at v.ready.step;
      escapes = v.escapes;
    }

pub steps-preserved-in_ok-step-in-Entry : goal.steps-preserved-in_ok-step-in-Entry
steps-preserved-in_ok-step-in-Entry c =
    let v = c.steps.invariant in
    let q = c.in_ok-step-in-Entry.ensures in
    let p = rw c.in-Entry.is at v.ready.step in
    record {
      ready = ready_from _ p.0.order q.stepped.ready;
      escapes = escapes_same _ _ _ q.stepped.same_escapes v.escapes;
      tied = λ base r a. q.tied base r (rw c.in-Entry.is at (v.tied base r a));
      counted = λ total a. q.counted total (rw c.in-Entry.is at (v.counted total a));
    }

pub steps-preserved-in_ok-step-in-Node : goal.steps-preserved-in_ok-step-in-Node
steps-preserved-in_ok-step-in-Node c =
    let v = c.steps.invariant in
    let q = c.in_ok-step-in-Node.ensures in
    let p = rw c.in-Node.is at v.ready.step in
    record {
      ready = ready_from _ p.0.order q.ready;
      escapes = q.escapes;
      tied = λ base r a. q.tied base r (rw c.in-Node.is at (v.tied base r a));
      counted = λ total a. q.counted total (rw c.in-Node.is at (v.counted total a));
    }

pub steps-preserved : goal.steps-preserved
steps-preserved c =
    let v = c.steps.invariant in
    let q = c.in_ok-step-in-Ended.ensures in
    let p = rw c.in-Ended.is at v.ready.step in
    record {
      ready = ready_from _ p.0.order q.stepped.ready;
      escapes = escapes_same _ _ _ q.stepped.same_escapes v.escapes;
      tied = λ base r a. q.tied base r (rw c.in-Ended.is at (v.tied base r a));
      counted = λ total a. q.counted total (rw c.in-Ended.is at (v.counted total a));
    }
