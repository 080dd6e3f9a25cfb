use Rattle.std.proofs.Common.{◌≡◌, ◌++◌, drop}
use Rattle.yf_events.proofs.tags.all_lent.Given as goal

abbrev pub invariant-loop-one : goal.invariant-loop-one
invariant-loop-one l = l.copy.items ++ drop l.one-index l.tagged ≡ l.tagged
