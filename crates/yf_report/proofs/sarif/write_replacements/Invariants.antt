-- The written tokens and those still to be written are the tokens of the list.
use Rattle.std.proofs.Common.{◌≡◌, ◌++◌, drop, map}
use Rattle.json.specs.Json.{array}
use Rattle.json.specs.Tree.{json_tokens}
use Rattle.yf_report.specs.Fixes.{replaced}
use Rattle.yf_report.specs.Sarif.{replacement_items}
use Rattle.yf_report.proofs.SarifLemmas.{left_replacements}
use Rattle.yf_report.proofs.sarif.write_replacements.Given as goal

abbrev pub invariant-loop-replacement : goal.invariant-loop-replacement
invariant-loop-replacement l = record {
  before : l.out.before ≡ l.fn.out.before;
  tokens : l.out.tokens ++ left_replacements (drop l.replacement-index l.fix) ≡
      l.fn.out.tokens ++ json_tokens (array (replacement_items (map replaced l.fix)));
}
