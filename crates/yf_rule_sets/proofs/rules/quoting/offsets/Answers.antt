use Rattle.std.proofs.Common.{arith}
use Rattle.yf_rule_sets.specs.RuleSets.Styles.{QuotingFault}
use Rattle.yf_rule_sets.proofs.Texts.ExactLemmas.{none_yet, answer_found, all_found_upto}
use Rattle.yf_rule_sets.proofs.RuleSets.StyleLemmas.{misquoted_event}
use Rattle.yf_rule_sets.proofs.rules.quoting.offsets.Goals as goal

pub loop-i-init : goal.loop-i-init
loop-i-init c = none_yet _ c.new-offsets.result.items c.new-offsets.ensures.items

pub loop-i-preserved : goal.loop-i-preserved
loop-i-preserved c =
    answer_found (QuotingFault c.args.src.now.text c.args.reading.now c.args.style.now) c.loop-i.i _ _ c.misquoted.result c.loop-i.invariant c.misquoted.ensures
    c.in_ok-push_found.ensures

pub returns : goal.returns
returns c =
    all_found_upto _ _ c.loop-i.i c.loop-i.offsets.items c.loop-i.invariant (λ k x l p. p)
    (λ k x p. (let h = misquoted_event p in omega (arith, h, c.len-i-end.ensures, c.loop-i-test.false), p))
