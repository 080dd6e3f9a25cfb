use Rattle.std.proofs.Common.{◌≡◌, ◌++◌, drop}
use Rattle.yf_rule_sets.specs.Passes.Entries.{all_entries}
use Rattle.yf_rule_sets.proofs.facts.node_context.first_entries.Given as goal

abbrev pub invariant-loop-i : goal.invariant-loop-i
invariant-loop-i l = l.offsets.items ++ all_entries l.src.text (drop l.i l.reading.events) ≡ all_entries l.src.text l.reading.events
