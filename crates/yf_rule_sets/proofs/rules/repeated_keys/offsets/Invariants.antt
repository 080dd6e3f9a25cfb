use Rattle.std.proofs.Common.{◌≡◌, ◌++◌, List, [], drop, reverse}
use Rattle.yf_rule_sets.specs.Passes.KeyPass.{AreCollections, OpenCollection, run}
use Rattle.yf_rule_sets.proofs.rules.repeated_keys.offsets.Given as goal

abbrev pub invariant-loop-i : goal.invariant-loop-i
invariant-loop-i l = (st : List OpenCollection) × AreCollections l.keys.items (reverse l.stack.items) st × (l.offsets.items ++ run l.reading.resolved l.i st (drop l.i l.reading.events) ≡ run l.reading.resolved 0 [] l.reading.events)
