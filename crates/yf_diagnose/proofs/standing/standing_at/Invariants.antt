use Rattle.yf_diagnose.proofs.standing.standing_at.Given as goal

abbrev pub invariant-properties : goal.invariant-properties
invariant-properties l = Unit {0}

abbrev pub decreases-properties : goal.decreases-properties
decreases-properties l = l.from
