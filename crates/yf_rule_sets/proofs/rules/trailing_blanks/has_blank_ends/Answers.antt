use Rattle.std.proofs.Common.{◌≡◌, ◌<◌, ◌≤◌, false, ap, length, subst, ⊎_elim, arith}
use Rattle.std.proofs.lemmas.Bool.{cases_lt}
use Rattle.yf_rule_sets.specs.RuleSets.ByLine.{BlankEnd}
use Rattle.yf_rule_sets.proofs.RuleSets.TrailingLemmas.{blank_line}
use Rattle.yf_rule_sets.proofs.rules.trailing_blanks.has_blank_ends.Goals as goal

pub loop-k-preserved : goal.loop-k-preserved
loop-k-preserved c = λ j o l e.
    ⊎_elim (λ (h : j < c.loop-k.k). c.loop-k.invariant j o h e)
    (λ (h : c.loop-k.k ≤ j).
    c.ends_in_white.ensures c.if-ends_in_white.false o (subst (λ n. BlankEnd c.args.src.now n false o) (let q : j ≡ c.loop-k.k = omega (arith, l, h) in q) e))
    (cases_lt j c.loop-k.k)

pub returns : goal.returns
returns c = λ e j o h.
    let w = blank_line h in
    let count : length c.args.src.now.lines ≤ c.loop-k.k = omega (arith, ap (λ w. length w.lines) c.lines.ensures, c.len-k-end.ensures.count, c.loop-k-test.false) in
    c.loop-k.invariant j o (omega (arith, w, count)) h
