use Rattle.std.proofs.Common.{◌++◌, ◌∷◌, [], ap, ◌∙◌, append_assoc, arith}
use Rattle.json.specs.Token.{begin_array}
use Rattle.yf_report.proofs.JsonLemmas.{added}
use Rattle.yf_report.proofs.SarifLemmas.{left_rules, rules_more, rules_end}
use Rattle.yf_report.proofs.sarif.write_rules.Goals as goal

pub loop-rule-init : goal.loop-rule-init
loop-rule-init c =
    let h = added c.in_ok-begin_array.ensures in
    record {
      before = h.before;
      tokens = ap (λ l. l ++ left_rules c.args.rules.now) h.tokens
          ∙ append_assoc c.args.out.now.tokens (begin_array ∷ []) (left_rules c.args.rules.now);
    }

pub loop-rule-preserved : goal.loop-rule-preserved
loop-rule-preserved c =
    let l = c.loop-rule in
    let h = c.in_ok-write_rule.ensures in
    record {
      before = h.before ∙ l.invariant.before;
      tokens = rules_more l.rule-index c.args.rules.now _ (omega arith) h l.invariant.tokens;
    }

pub returns : goal.returns
returns c =
    let l = c.loop-rule in
    rules_end l.rule-index c.args.rules.now c.args.out.now l.out c.end_array.new.self (omega arith)
    l.invariant.before l.invariant.tokens (added c.in_ok-end_array.ensures)
