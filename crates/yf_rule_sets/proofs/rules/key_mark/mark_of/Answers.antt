use Rattle.std.proofs.Common.{subst}
use Rattle.yf_rule_sets.specs.RuleSets.QuestionMarks.{HasQuestionMark}
use Rattle.yf_rule_sets.proofs.RuleSets.NeedlessLemmas.{marked_here, not_marked}
use Rattle.yf_rule_sets.proofs.rules.key_mark.mark_of.Goals as goal

pub returns-then-has_question_mark : goal.returns-then-has_question_mark
returns-then-has_question_mark c =
    marked_here c.args.src.now.text c.args.reading.now c.args.i c.in-Some.entry c.in-Some.ensures
    (subst (λ t. HasQuestionMark t c.in-Some.entry.start) c.text.ensures c.if-has_question_mark.ensures)

pub returns-else-has_question_mark : goal.returns-else-has_question_mark
returns-else-has_question_mark c =
    not_marked c.args.src.now.text c.args.reading.now c.args.i c.in-Some.entry c.in-Some.ensures
    (subst (λ t. HasQuestionMark t c.in-Some.entry.start → ⊥) c.text.ensures c.if-has_question_mark.ensures)
