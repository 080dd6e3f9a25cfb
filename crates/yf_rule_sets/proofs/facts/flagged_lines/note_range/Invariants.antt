use Rattle.std.proofs.Common.{◌≤◌, ◌-◌, length}
use Rattle.yf_rule_sets.specs.Passes.LineFlags.{FlagsAdded}
use Rattle.yf_rule_sets.specs.Passes.ScalarLines.{InRange}
use Rattle.yf_rule_sets.proofs.Texts.NotedLemmas.{Until}
use Rattle.yf_rule_sets.proofs.facts.flagged_lines.note_range.Given as goal

abbrev pub invariant-loop-k : goal.invariant-loop-k
invariant-loop-k l = record {
  noted : FlagsAdded l.initial.list.items l.list.items (Until (InRange l.src.lines l.range) l.k);
  from : l.range.first ≤ l.k;
}

abbrev pub decreases-loop-k : goal.decreases-loop-k
decreases-loop-k l = length l.list.items - l.k
