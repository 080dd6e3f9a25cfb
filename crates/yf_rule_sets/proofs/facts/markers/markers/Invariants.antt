use Rattle.std.proofs.Common.{◌≡◌, ◌++◌, drop}
use Rattle.yf_events.specs.Reading.{events_of}
use Rattle.yf_rule_sets.specs.RuleSets.Documents.{markers_in}
use Rattle.yf_rule_sets.proofs.facts.markers.markers.Given as goal

abbrev pub invariant-loop-i : goal.invariant-loop-i
invariant-loop-i l = l.markers.items ++ markers_in (drop l.i (events_of l.reading)) ≡ markers_in (events_of l.reading)
