-- The written cases and those still to be written are all cases.
use Rattle.std.proofs.Common.{◌≡◌, ◌++◌, drop, map, flat_map}
use Rattle.yf_report.specs.Problems.{finding_of}
use Rattle.yf_report.specs.XmlText.{tag_text}
use Rattle.yf_report.specs.Junit.{case_tags}
use Rattle.yf_report.proofs.junit.junit_report.Given as goal

abbrev pub invariant-loop-problem : goal.invariant-loop-problem
invariant-loop-problem l =
    l.out.items ++ flat_map tag_text
    (flat_map case_tags (map finding_of (drop l.problem-index l.problems))) ≡ l.initial.out.items ++ flat_map tag_text
    (flat_map case_tags (map finding_of l.problems))
