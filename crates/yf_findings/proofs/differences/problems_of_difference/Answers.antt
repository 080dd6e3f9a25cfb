use Rattle.std.proofs.Common.{◌≡◌, ◌∙◌, ◌++◌, ◌∷◌, List, [], ap, subst, sym}
use Rattle.std.specs.Prelude.{MatchOption, None, Option, Some}
use Rattle.yf_findings.specs.Differences.{DifferenceProblems}
use Rattle.yf_findings.specs.Differences.DifferenceProblems.{no_difference, one_difference}
use Rattle.yf_findings.specs.declared.owned.OwnedProblem.{OwnedProblem}
use Rattle.yf_lines.specs.declared.place.Position.{Position}
use Rattle.yf_rules.specs.Runs.Compare.{DiffersFirst}
use Rattle.yf_findings.proofs.differences.problems_of_difference.Goals as goal

pub returns-in-Ok-None : goal.returns-in-Ok-None
returns-in-Ok-None c =
    let t = c.args.text.now in
    let u = c.args.other.now in
    record {
      place = None;
      first = subst (λ (place : Option Position). MatchOption place (t ≡ u) (DiffersFirst t u)) c.in-Ok-None.field-0-is
          c.in-Ok-None.ensures;
      problems = subst (λ (ps : List OwnedProblem). DifferenceProblems t None ps) (sym c.new-problems.ensures.items)
          no_difference;
    }

pub returns-in_ok-push-in-Ok-Some : goal.returns-in_ok-push-in-Ok-Some
returns-in_ok-push-in-Ok-Some c =
    let t = c.args.text.now in
    let u = c.args.other.now in
    let p = c.in_ok-problem-in-Ok-Some.problem in
    let listed = c.in_ok-push-in-Ok-Some.ensures.items ∙ ap (λ ps. ps ++ p ∷ []) c.new-problems.ensures.items in
    record {
      place = Some c.in-Ok-Some.place;
      first = subst (λ (place : Option Position). MatchOption place (t ≡ u) (DiffersFirst t u)) c.in-Ok-Some.field-0-is
          c.in-Ok-Some.ensures;
      problems = subst (λ (ps : List OwnedProblem). DifferenceProblems t (Some c.in-Ok-Some.place) ps) (sym listed)
          (one_difference c.in_ok-problem-in-Ok-Some.ensures);
    }
