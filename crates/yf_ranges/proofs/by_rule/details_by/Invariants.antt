use Rattle.std.proofs.Common.{take}
use Rattle.yf_ranges.specs.Details.{DetailOf}
use Rattle.yf_ranges.proofs.GatherLemmas.{Gathered}
use Rattle.yf_ranges.proofs.by_rule.details_by.Given as goal

abbrev pub invariant-loop-k : goal.invariant-loop-k
invariant-loop-k l = Gathered l.src.text (DetailOf l.rule l.src.text l.style) (take l.k l.offsets.items) l.details.items
