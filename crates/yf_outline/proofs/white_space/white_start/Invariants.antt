-- After the offset there is only white space.
use Rattle.std.proofs.Common.{◌≡◌}
use Rattle.yf_outline.specs.WhiteSpace.{white_start}
use Rattle.yf_outline.proofs.white_space.white_start.Given as goal

abbrev pub invariant-loop-at : goal.invariant-loop-at
invariant-loop-at l = white_start l.text l.at ≡ white_start l.text l.offset

abbrev pub decreases-loop-at : goal.decreases-loop-at
decreases-loop-at l = l.at
