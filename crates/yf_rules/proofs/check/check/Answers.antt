use Rattle.std.proofs.Common.{arith}
use Rattle.yf_rules.proofs.Findings.CheckLemmas.{none_checked, more_checked, more_left_out, all_checked}
use Rattle.yf_rules.proofs.Findings.MendedFindings.{both_silent, none_silent, sorted_silent}
use Rattle.yf_rules.proofs.check.check.Goals as goal

pub loop-rule-init : goal.loop-rule-init
loop-rule-init g c = record { ordered = none_checked _ _ c.new-all.ensures.items; silent = none_silent _ c.new-all.ensures.items }

pub loop-rule-preserved-then-is_among : goal.loop-rule-preserved-then-is_among
loop-rule-preserved-then-is_among g c = record {
  ordered = more_left_out c.args.rules.now c.loop-rule.rule-index _ (λ b. (goal.Rule-dyn g (b.vtable, b.value)).definition b.value) _ _ _ (omega arith) c.rule-item.is c.is_among.ensures c.about_of.ensures.id
      _ _ c.if-is_among.true c.loop-rule.invariant.ordered;
  silent = c.loop-rule.invariant.silent;
}

pub loop-rule-preserved : goal.loop-rule-preserved
loop-rule-preserved g c = record {
  ordered = more_checked c.args.rules.now c.loop-rule.rule-index _ (λ b. (goal.Rule-dyn g (b.vtable, b.value)).definition b.value) _ _ _ (omega arith) c.rule-item.is c.is_among.ensures c.about_of.ensures.id
      _ _ _ _ c.if-is_among.false c.loop-rule.invariant.ordered c.in_ok-findings.ensures.findings c.in_ok-add.ensures.added;
  silent = both_silent _ _ _ c.loop-rule.invariant.silent c.in_ok-findings.ensures.mends c.in_ok-add.ensures.added;
}

pub returns-in-Ok-clause-findings : goal.returns-in-Ok-clause-findings
returns-in-Ok-clause-findings g c =
    all_checked c.args.rules.now c.loop-rule.rule-index (λ b. (goal.Rule-dyn g (b.vtable, b.value)).definition b.value) _ _ _ _ (omega arith) c.loop-rule.invariant.ordered c.in-Ok.ensures

pub returns-in-Ok-clause-mends : goal.returns-in-Ok-clause-mends
returns-in-Ok-clause-mends g c = sorted_silent _ _ c.loop-rule.invariant.silent c.in-Ok.ensures
