use Rattle.yf_explain.proofs.look.document_start.Given as goal

abbrev pub decreases-loop-start : goal.decreases-loop-start
decreases-loop-start l = l.start
