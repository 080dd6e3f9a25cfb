use Rattle.std.proofs.Common.{◌<◌, ℕ, false}
use Rattle.yf_rule_sets.specs.RuleSets.ByLine.{BlankEnd}
use Rattle.yf_rule_sets.proofs.rules.trailing_blanks.has_blank_ends.Given as goal

abbrev pub invariant-loop-k : goal.invariant-loop-k
invariant-loop-k l = (j o : ℕ) → j < l.k → BlankEnd l.src j false o → ⊥
