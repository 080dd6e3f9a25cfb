use Rattle.std.proofs.Common.{List, subst, sym}
use Rattle.std.proofs.lemmas.Result.{IfOk-weaker}
use Rattle.yf_findings.specs.Texts.{ReadingProblems}
use Rattle.yf_findings.specs.declared.owned.OwnedProblem.{OwnedProblem}
use Rattle.yf_findings.proofs.TextLemmas.{both_changes}
use Rattle.yf_findings.proofs.texts.problems_from.Goals as goal

pub returns-in-Ok-clause-found : goal.returns-in-Ok-clause-found
returns-in-Ok-clause-found c =
    IfOk-weaker c.with_changes.result _ _
    (λ checked same. subst (λ (z : List OwnedProblem). ReadingProblems c.args.without.now c.args.style.now
    c.args.src.now
    c.args.reading z) (sym same) c.in-Ok.ensures.found) c.with_changes.ensures.problems

pub returns-in-Ok-clause-changes : goal.returns-in-Ok-clause-changes
returns-in-Ok-clause-changes c =
    both_changes c.with_changes.result c.args.asked c.args.style.now c.args.src.now.text c.in-Ok.problems.items
    c.with_changes.ensures.problems c.with_changes.ensures.changes
