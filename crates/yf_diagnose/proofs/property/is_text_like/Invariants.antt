use Rattle.std.proofs.Common.{◌-◌}
use Rattle.yf_diagnose.proofs.property.is_text_like.Given as goal

abbrev pub invariant-bytes : goal.invariant-bytes
invariant-bytes l = Unit {0}

abbrev pub decreases-bytes : goal.decreases-bytes
decreases-bytes l = l.to - l.at
