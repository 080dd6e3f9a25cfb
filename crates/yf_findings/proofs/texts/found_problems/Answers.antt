use Rattle.std.proofs.Common.{List, subst}
use Rattle.std.specs.List.{Contains}
use Rattle.yf_findings.specs.Problems.{EachProblem, FindingProblem}
use Rattle.yf_findings.proofs.FoundPlaces.{found_in_text}
use Rattle.yf_rules.specs.declared.finding.Finding.{Finding}
use Rattle.yf_findings.proofs.texts.found_problems.Goals as goal

pub problems_of-requires : goal.problems_of-requires
problems_of-requires c = λ f d.
    found_in_text c.args.src.now c.args.reading.now c.args.style.now c.args.without.now c.in_ok-findings.findings.items
    c.in_ok-findings.ensures.findings f (subst (λ (z : List Finding). Contains z f) c.as_slice.ensures.value d)

pub returns-in-Ok-clause-found : goal.returns-in-Ok-clause-found
returns-in-Ok-clause-found c = record {
  nested = c.lists-lists.ensures.nested;
  findings = c.in_ok-findings.findings.items;
  found = c.in_ok-findings.ensures.findings;
  mends = c.in_ok-findings.ensures.mends;
  problems = subst (λ (z : List Finding). EachProblem (FindingProblem c.args.src.now c.args.reading.now
      c.args.style.now) z
      c.in-Ok.problems.items) c.as_slice.ensures.value c.in-Ok.ensures;
}
