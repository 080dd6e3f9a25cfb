-- The characters up to the offset were added.
use Rattle.std.proofs.Common.{◌-◌}
use Rattle.yf_explain.specs.Source.{AddsPart}
use Rattle.yf_explain.proofs.page.Page.push_part.Given as goal

abbrev pub invariant-loop-end : goal.invariant-loop-end
invariant-loop-end l = AddsPart l.text l.from l.to l.most l.initial.self l.self l.end l.columns

abbrev pub decreases-loop-end : goal.decreases-loop-end
decreases-loop-end l = l.to - l.end
