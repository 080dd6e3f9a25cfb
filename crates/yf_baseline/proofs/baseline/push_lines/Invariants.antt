-- The written lines and those still to be written are all lines.
use Rattle.std.proofs.Common.{◌≡◌, ◌++◌, drop, false}
use Rattle.yf_baseline.specs.Baselines.{lines_text}
use Rattle.yf_baseline.proofs.baseline.push_lines.Given as goal

abbrev pub invariant-loop-entry : goal.invariant-loop-entry
invariant-loop-entry l =
    l.out.items ++ lines_text l.after (drop l.entry-index l.entries) ≡ l.initial.out.items ++ lines_text false l.entries
