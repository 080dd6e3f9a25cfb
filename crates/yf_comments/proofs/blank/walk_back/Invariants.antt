use Rattle.yf_comments.proofs.BlankLemmas.{Walked}
use Rattle.yf_comments.proofs.blank.walk_back.Given as goal

abbrev pub invariant-back : goal.invariant-back
invariant-back l = Walked l.s l.at l.place l.blank

abbrev pub decreases-back : goal.decreases-back
decreases-back l = l.place
