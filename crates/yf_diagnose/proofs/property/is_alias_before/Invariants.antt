use Rattle.yf_diagnose.proofs.property.is_alias_before.Given as goal

abbrev pub invariant-bytes : goal.invariant-bytes
invariant-bytes l = Unit {0}

abbrev pub decreases-bytes : goal.decreases-bytes
decreases-bytes l = l.start
