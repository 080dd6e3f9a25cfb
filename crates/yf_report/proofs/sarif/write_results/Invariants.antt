-- The written tokens and those still to be written are the tokens of the list.
use Rattle.std.proofs.Common.{◌≡◌, ◌++◌, drop, map}
use Rattle.json.specs.Json.{array}
use Rattle.json.specs.Tree.{json_tokens}
use Rattle.yf_report.specs.Fixes.{fixed_of}
use Rattle.yf_report.specs.Sarif.{result_items}
use Rattle.yf_report.proofs.SarifLemmas.{left_results}
use Rattle.yf_report.proofs.sarif.write_results.Given as goal

abbrev pub invariant-loop-problem : goal.invariant-loop-problem
invariant-loop-problem l = record {
  before : l.out.before ≡ l.fn.out.before;
  tokens : l.out.tokens ++ left_results (drop l.problem-index l.problems) ≡
      l.fn.out.tokens ++ json_tokens (array (result_items (map fixed_of l.problems)));
}
