use Rattle.yf_flow.proofs.Ends.KeyLineLemmas.{KeySoFar}
use Rattle.yf_flow.proofs.look.is_key_line.Given as goal

abbrev pub decreases-characters : goal.decreases-characters
decreases-characters l = l.room

abbrev pub invariant-characters : goal.invariant-characters
invariant-characters l = KeySoFar l.text l.start l.end l.at l.room
