use Rattle.yf_diagnose.proofs.joined.is_below_header.Given as goal

abbrev pub invariant-lines : goal.invariant-lines
invariant-lines l = Unit {0}

abbrev pub decreases-lines : goal.decreases-lines
decreases-lines l = l.line
