use Rattle.std.proofs.Common.{◌-◌, ◌≤◌}
use Rattle.yf_explain.proofs.source.char_start.Given as goal

abbrev pub invariant-loop-start : goal.invariant-loop-start
invariant-loop-start l = record { from : l.from ≤ l.start; to : l.start ≤ l.at }

abbrev pub decreases-loop-start : goal.decreases-loop-start
decreases-loop-start l = l.start - l.from
