use Rattle.std.proofs.Common.{◌≡◌, length}
use Rattle.yf_rule_sets.specs.Passes.LineFlags.{FlagsOf}
use Rattle.yf_rule_sets.specs.Passes.ScalarLines.{WantedLine}
use Rattle.yf_rule_sets.proofs.facts.flagged_lines.wanted_lines.Given as goal

abbrev pub invariant-loop-i : goal.invariant-loop-i
invariant-loop-i l = record {
  len : length l.list.items ≡ length l.src.lines;
  noted : FlagsOf l.list.items l.i (λ i k. WantedLine l.wanted l.src l.reading k i);
}
