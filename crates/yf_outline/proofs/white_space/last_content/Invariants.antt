-- After the offset there are only white space and line breaks.
use Rattle.std.proofs.Common.{◌≡◌}
use Rattle.yf_outline.specs.WhiteSpace.{last_content}
use Rattle.yf_outline.proofs.white_space.last_content.Given as goal

abbrev pub invariant-loop-at : goal.invariant-loop-at
invariant-loop-at l = last_content l.text l.at ≡ last_content l.text l.end

abbrev pub decreases-loop-at : goal.decreases-loop-at
decreases-loop-at l = l.at
