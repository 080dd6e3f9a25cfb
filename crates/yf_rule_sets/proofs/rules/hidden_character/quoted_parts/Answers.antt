use Rattle.std.proofs.Common.{arith}
use Rattle.yf_rule_sets.specs.RuleSets.HiddenCharacters.{QuotedPart}
use Rattle.yf_rule_sets.proofs.Texts.ExactLemmas.{answer_found, all_found_upto}
use Rattle.yf_rule_sets.proofs.RuleSets.HiddenLemmas.{part_event}
use Rattle.yf_rule_sets.proofs.rules.hidden_character.quoted_parts.Goals as goal

pub loop-i-preserved : goal.loop-i-preserved
loop-i-preserved c =
    answer_found (QuotedPart c.args.src.now.text c.args.reading.now) c.loop-i.i _ _ c.quoted_part.result c.loop-i.invariant c.quoted_part.ensures c.in_ok-push_found.ensures

pub returns : goal.returns
returns c =
    all_found_upto _ _ c.loop-i.i c.loop-i.parts.items c.loop-i.invariant (λ k x l p. p)
    (λ k x p. (let h = part_event p in omega (arith, h, c.len-i-end.ensures, c.loop-i-test.false), p))
