use Rattle.std.proofs.Common.{ap, length, arith}
use Rattle.yf_rule_sets.specs.RuleSets.BlankLines.{MisplacedBlank}
use Rattle.yf_rule_sets.proofs.RuleSets.BlankLemmas.{misplaced_line}
use Rattle.yf_rule_sets.proofs.Texts.ExactLemmas.{answer_found, all_found_upto}
use Rattle.yf_rule_sets.proofs.rules.blank_lines.offsets.Goals as goal

pub loop-k-preserved : goal.loop-k-preserved
loop-k-preserved c =
    let r = c.args.reading.now in
    answer_found (MisplacedBlank c.args.src.now r) c.loop-k.k _ _ c.misplaced.result c.loop-k.invariant (c.misplaced.ensures r c.in_ok-notes.ensures) c.in_ok-push_found.ensures

pub returns : goal.returns
returns c =
    all_found_upto _ _ c.loop-k.k c.loop-k.offsets.items c.loop-k.invariant (λ k x l p. p)
    (λ k x p. (let h = misplaced_line p in omega (arith, h, c.len-k-end.ensures.count, ap (λ w. length w.lines) c.lines.ensures, c.loop-k-test.false), p))
