-- No change so far.
use Rattle.std.proofs.Common.{◌≡◌, drop}
use Rattle.yf_diff.specs.Script.{has_change}
use Rattle.yf_diff.proofs.hunks.any_change.Given as goal

abbrev pub invariant-loop-step : goal.invariant-loop-step
invariant-loop-step l = has_change (drop l.step-index l.steps) ≡ has_change l.steps
