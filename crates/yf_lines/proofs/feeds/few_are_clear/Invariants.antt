use Rattle.yf_lines.specs.Feeds.{NoFeeds}
use Rattle.yf_lines.proofs.feeds.few_are_clear.Given as goal

abbrev pub invariant-loop-i : goal.invariant-loop-i
invariant-loop-i l = NoFeeds l.text 0 l.i
