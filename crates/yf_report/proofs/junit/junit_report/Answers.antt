use Rattle.std.proofs.Common.{◌++◌, ◌∷◌, [], map, ap, ◌∙◌, arith}
use Rattle.yf_report.specs.Problems.{finding_of}
use Rattle.yf_report.specs.Xml.{declaration}
use Rattle.yf_report.proofs.JunitLemmas.{cases_end, junit_back, junit_nested}
use Rattle.yf_report.proofs.junit.junit_report.Goals as goal

pub returns-clause-tags : goal.returns-clause-tags
returns-clause-tags c =
    let l = c.loop-problem in
    junit_back (map finding_of c.args.problems.now)
    (c.in_ok-push_declaration.ensures ∙ ap (λ b. b ++ (declaration ++ 62 ∷ [])) c.new-out.ensures.items)
    c.in_ok-push_suite.ensures c.in_ok-push_suite-2.ensures
    (cases_end l.problem-index c.args.problems.now l.out.items (omega arith) l.invariant) c.in_ok-push_close.ensures
    c.in_ok-push_close-2.ensures c.in_ok-extend_from_slice.ensures.items

pub returns-clause-nested : goal.returns-clause-nested
returns-clause-nested c = junit_nested (map finding_of c.args.problems.now)
