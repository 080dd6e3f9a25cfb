use Rattle.std.proofs.Common.{arith}
use Rattle.yf_rule_sets.proofs.RuleSets.DisplacedLemmas.{is_empty_by, is_filled_by}
use Rattle.yf_rule_sets.proofs.Texts.FlowLemmas.{last_alone}
use Rattle.yf_rule_sets.proofs.rules.flow_layout.is_empty.Goals as goal

pub returns-then-saturating_sub-le1 : goal.returns-then-saturating_sub-le1
returns-then-saturating_sub-le1 c = λ t s es x m n f.
    is_empty_by x c.args.i c.at.result.last (last_alone c.at.result m n f c.at.ensures) f (omega (arith, c.saturating_sub.ensures, c.if-saturating_sub-le1.true))

pub returns : goal.returns
returns c = λ t s es x m n f.
    is_filled_by x c.args.i c.at.result.last (last_alone c.at.result m n f c.at.ensures) f (omega (arith, c.saturating_sub.ensures, c.if-saturating_sub-le1.false))
