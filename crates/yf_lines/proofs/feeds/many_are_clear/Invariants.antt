use Rattle.std.proofs.Common.{◌-◌, ◌≤◌, length}
use Rattle.yf_lines.specs.Feeds.{NoFeeds}
use Rattle.yf_lines.proofs.feeds.many_are_clear.Given as goal

abbrev pub invariant-loop-at : goal.invariant-loop-at
invariant-loop-at l = (l.at ≤ length l.text) × NoFeeds l.text 0 l.at

abbrev pub decreases-loop-at : goal.decreases-loop-at
decreases-loop-at l = length l.text - l.at
