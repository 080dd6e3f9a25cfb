use Rattle.std.proofs.lemmas.List.Elements.{Contains-get_or}
use Rattle.yf_findings.specs.Problems.{FindingProblem}
use Rattle.yf_findings.proofs.ListLemmas.{all_problems, more_problems, no_problems}
use Rattle.yf_findings.proofs.listing.listed.Goals as goal

pub loop-finding-init : goal.loop-finding-init
loop-finding-init c = record {
  problems = λ reading k. no_problems (FindingProblem c.args.src.now reading c.args.style.now) c.new-problems.result.items c.new-problems.ensures.items;
  cursor = c.line_start-cursor.ensures.cursor;
}

pub next_problem-requires-clause-place : goal.next_problem-requires-clause-place
next_problem-requires-clause-place c = c.requires _ (Contains-get_or c.args.findings.now c.loop-finding.finding-index _ c.loop-finding-test.true)

pub loop-finding-preserved : goal.loop-finding-preserved
loop-finding-preserved c = record {
  problems = λ reading k. more_problems (FindingProblem c.args.src.now reading c.args.style.now) c.args.findings.now c.loop-finding.finding-index _ c.loop-finding.problems.items
      c.push.new.self.items c.in-Ok.problem c.loop-finding-test.true (c.loop-finding.invariant.problems reading k) (c.in-Ok.ensures.problem reading k) c.in_ok-push-in-Ok.ensures.items;
  cursor = c.next_problem.ensures.cursor;
}

pub returns : goal.returns
returns c = λ reading k.
    all_problems (FindingProblem c.args.src.now reading c.args.style.now) c.args.findings.now c.loop-finding.finding-index c.loop-finding.problems.items
    c.loop-finding-test.false (c.loop-finding.invariant.problems reading k)
