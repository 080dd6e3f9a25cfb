-- The set has the lines of the entries so far.
use Rattle.std.proofs.Common.{map, take}
use Rattle.yf_baseline.specs.Baselines.{entry_line}
use Rattle.yf_baseline.specs.SeenTexts.{Holds}
use Rattle.yf_baseline.proofs.listed.lines_of.Given as goal

abbrev pub invariant-loop-entry : goal.invariant-loop-entry
invariant-loop-entry l = Holds l.set (map (λ e. entry_line e) (take l.entry-index l.entries))
