use Rattle.std.proofs.Common.{◌+◌, ◌-◌}
use Rattle.yf_diagnose.proofs.guess.is_template.Given as goal

abbrev pub invariant-signs : goal.invariant-signs
invariant-signs l = Unit {0}

abbrev pub decreases-signs : goal.decreases-signs
decreases-signs l = l.at + 1 - l.here
