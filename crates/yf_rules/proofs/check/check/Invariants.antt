use Rattle.std.proofs.Common.{take}
use Rattle.yf_rules.specs.Asked.{asked}
use Rattle.yf_rules.specs.Check.{InOrder, RuleFindings}
use Rattle.yf_laws.specs.Mended.{IsFormatted}
use Rattle.yf_rules.specs.NothingToFix.{NoneFixable}
use Rattle.yf_rules.proofs.check.check.Given as goal

abbrev pub invariant-loop-rule : goal.invariant-loop-rule
invariant-loop-rule g l = record {
  ordered : InOrder (λ b found. RuleFindings ((goal.Rule-dyn g (b.vtable, b.value)).definition b.value) l.src l.reading l.style found)
      (asked (λ b. (goal.Rule-dyn g (b.vtable, b.value)).definition b.value) l.without (take l.rule-index l.rules)) l.all.items;
  silent : IsFormatted l.src l.reading l.style → NoneFixable l.all.items;
}
