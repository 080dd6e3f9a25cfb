use Rattle.std.proofs.Common.{◌≤◌, ap, length, arith}
use Rattle.yf_rule_sets.specs.RuleSets.ByLine.{BeyondLimit}
use Rattle.yf_rule_sets.proofs.Texts.ExactLemmas.{none_yet, answer_found, all_found_upto}
use Rattle.yf_rule_sets.proofs.RuleSets.RunLemmas.{beyond_within}
use Rattle.yf_rule_sets.proofs.rules.line_length.offsets.Goals as goal

pub loop-k-init : goal.loop-k-init
loop-k-init c = none_yet _ c.new-offsets.result.items c.new-offsets.ensures.items

pub loop-k-preserved : goal.loop-k-preserved
loop-k-preserved c =
    answer_found (BeyondLimit c.args.src.now c.args.style.now.max_line) c.loop-k.k _ _ c.beyond.result c.loop-k.invariant c.beyond.ensures c.in_ok-push_found.ensures

pub returns : goal.returns
returns c =
    let count : length c.args.src.now.lines ≤ c.loop-k.k = omega (arith, ap (λ w. length w.lines) c.lines.ensures, c.len-k-end.ensures.count) in
    all_found_upto _ _ c.loop-k.k c.loop-k.offsets.items c.loop-k.invariant (λ k x l p. p) (λ k x p. (let h = beyond_within p in omega (arith, h, count), p))
