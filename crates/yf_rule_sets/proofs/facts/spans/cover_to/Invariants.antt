use Rattle.std.proofs.Common.{◌-◌, length}
use Rattle.yf_rule_sets.specs.Passes.FarthestEnds.{Covers, AllBegin}
use Rattle.yf_rule_sets.proofs.facts.spans.cover_to.Given as goal

abbrev pub invariant-loop-count : goal.invariant-loop-count
invariant-loop-count l = record {
  cover : Covers l.spans l.count l.reach;
  begun : AllBegin l.spans l.count l.offset;
}

abbrev pub decreases-loop-count : goal.decreases-loop-count
decreases-loop-count l = length l.spans - l.count
