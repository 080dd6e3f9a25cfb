use Rattle.std.proofs.Common.{◌-◌}
use Rattle.yf_explain.proofs.opened.opened_before.Given as goal

abbrev pub decreases-loop-here : goal.decreases-loop-here
decreases-loop-here l = l.at - l.here
