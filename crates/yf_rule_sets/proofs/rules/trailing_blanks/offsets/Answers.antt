use Rattle.std.proofs.Common.{◌≡◌, ◌<◌, ◌∙◌, false, get_or, length, arith}
use Rattle.std.proofs.lemmas.List.{get_or_default}
use Rattle.yf_rule_sets.specs.RuleSets.ByLine.{TrailingBlank}
use Rattle.yf_rule_sets.proofs.Texts.ExactLemmas.{answer_found, all_found_upto}
use Rattle.yf_rule_sets.proofs.RuleSets.TrailingLemmas.{no_trailing, trailing_answered, trailing_line}
use Rattle.yf_rule_sets.proofs.rules.trailing_blanks.offsets.Goals as goal

pub returns-then-not-has_blank_ends : goal.returns-then-not-has_blank_ends
returns-then-not-has_blank_ends c = no_trailing c.args.src.now c.args.reading.now c.new.result.items c.new.ensures.items (c.has_blank_ends.ensures c.if-not-has_blank_ends.true)

pub loop-k-preserved : goal.loop-k-preserved
loop-k-preserved c =
    let v = c.args.src.now in
    let r = c.args.reading.now in
    let k = c.loop-k.k in
    let list = c.in_ok-content.content.items in
    let b = c.index.result.now in
    let inside : k < length list = omega (arith, c.in_ok-content.content.ok, c.len-k-end.ensures, c.loop-k-test.true) in
    let flag : b ≡ get_or list k false = c.index.ensures ∙ get_or_default list k b false inside in
    answer_found (TrailingBlank v r) k _ _ c.blank_end.result c.loop-k.invariant
    (trailing_answered v r list k b inside flag c.in_ok-content.ensures.1 c.blank_end.result c.blank_end.ensures) c.in_ok-push_found.ensures

pub returns : goal.returns
returns c =
    let count = c.in_ok-content.ensures.0 in
    all_found_upto _ _ c.loop-k.k c.loop-k.offsets.items c.loop-k.invariant (λ k x l p. p)
    (λ k x p. (let h = trailing_line p in omega (arith, h, count, c.in_ok-content.content.ok, c.len-k-end.ensures, c.loop-k-test.false), p))
