use Rattle.std.proofs.Common.{◌-◌, ◌≤◌, length}
use Rattle.yf_stream.specs.TagPass.{AllPassed}
use Rattle.yf_stream.proofs.resolve.resolve_from.Given as goal

abbrev pub invariant-events : goal.invariant-events
invariant-events l = record {
  passed : AllPassed l.events l.handles l.start l.at l.initial.resolved.first l.resolved.first l.fn.anchors l.anchors l.fn.resolved.tags l.resolved.tags;
  later : l.start ≤ l.at;
  within : l.at ≤ length l.events;
}

abbrev pub decreases-events : goal.decreases-events
decreases-events l = length l.events - l.at
