use Rattle.std.proofs.Common.{◌≤◌, length, arith}
use Rattle.yf_rule_sets.specs.RuleSets.Whites.{CloseComment}
use Rattle.yf_rule_sets.proofs.Texts.ExactLemmas.{none_yet, answer_found, all_found_upto}
use Rattle.yf_rule_sets.proofs.Texts.WhitesLemmas.{comment_count, comment_within}
use Rattle.yf_rule_sets.proofs.rules.comment_space.offsets.Goals as goal

pub loop-k-init : goal.loop-k-init
loop-k-init c = none_yet _ c.new-offsets.result.items c.new-offsets.ensures.items

pub loop-k-preserved : goal.loop-k-preserved
loop-k-preserved c =
    answer_found (CloseComment c.args.src.now.text c.args.reading.now) c.loop-k.k _ _ c.close.result c.loop-k.invariant c.close.ensures c.in_ok-push_found.ensures

pub returns : goal.returns
returns c =
    let all : length c.args.reading.now.comments ≤ c.loop-k.k = omega (arith, comment_count c.args.reading.now _ c.comments-k-end.ensures) in
    all_found_upto _ _ c.loop-k.k c.loop-k.offsets.items c.loop-k.invariant (λ k x l p. p) (λ k x p. (let h = comment_within p in omega (arith, h, all), p))
