use Rattle.std.proofs.Common.{Bool, false}
use Rattle.yf_block.specs.WalksBack.{WalksBack}
use Rattle.yf_block.proofs.look.walk_back.Given as goal

abbrev pub decreases-back : goal.decreases-back
decreases-back l = l.place

abbrev pub invariant-back : goal.invariant-back
invariant-back l = (r : Bool) → WalksBack l.text l.floor l.place l.blank r → WalksBack l.text l.floor l.at false r
