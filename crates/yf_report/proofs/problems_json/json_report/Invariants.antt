-- The written tokens and those still to be written are the tokens of the report.
use Rattle.std.proofs.Common.{◌≡◌, [], ◌++◌, drop, map}
use Rattle.json.specs.Tree.{json_tokens}
use Rattle.yf_report.specs.Problems.{finding_of}
use Rattle.yf_report.specs.ProblemsJson.{report_json}
use Rattle.yf_report.proofs.JsonLemmas.{left_tokens}
use Rattle.yf_report.proofs.problems_json.json_report.Given as goal

abbrev pub invariant-loop-problem : goal.invariant-loop-problem
invariant-loop-problem l = record {
  before : l.out.before ≡ [];
  tokens : l.out.tokens ++ left_tokens (drop l.problem-index l.problems) ≡ json_tokens
      (report_json (map finding_of l.problems));
}
