use Rattle.std.proofs.Common.{◌<◌, ℕ}
use Rattle.yf_rule_sets.specs.RuleSets.QuestionMarks.{IsMarked}
use Rattle.yf_rule_sets.proofs.rules.key_mark.has_marks.Given as goal

abbrev pub invariant-loop-i : goal.invariant-loop-i
invariant-loop-i l = (k o : ℕ) → k < l.i → IsMarked l.src.text l.reading k o → ⊥
