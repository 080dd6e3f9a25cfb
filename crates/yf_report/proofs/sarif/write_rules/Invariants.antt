-- The written tokens and those still to be written are the tokens of the list.
use Rattle.std.proofs.Common.{◌≡◌, ◌++◌, drop, map}
use Rattle.json.specs.Json.{array}
use Rattle.json.specs.Tree.{json_tokens}
use Rattle.yf_report.specs.Sarif.{described}
use Rattle.yf_report.specs.Sarif.{rule_items}
use Rattle.yf_report.proofs.SarifLemmas.{left_rules}
use Rattle.yf_report.proofs.sarif.write_rules.Given as goal

abbrev pub invariant-loop-rule : goal.invariant-loop-rule
invariant-loop-rule l = record {
  before : l.out.before ≡ l.fn.out.before;
  tokens : l.out.tokens ++ left_rules (drop l.rule-index l.rules) ≡
      l.fn.out.tokens ++ json_tokens (array (rule_items (map described l.rules)));
}
