use Rattle.std.proofs.Common.{◌≡◌, ◌-◌, ◌≤◌, ◌<◌, false, get_or, ap, ◌∙◌, inl, inr, ⊎_elim, arith}
use Rattle.std.proofs.lemmas.Bool.{cases_lt}
use Rattle.yf_rule_sets.proofs.rules.blank_lines.last_line.Goals as goal

pub loop-at-init : goal.loop-at-init
loop-at-init c = record { within = omega arith; follows = λ m l h. absurd (omega (arith, l, h)) }

pub loop-at-preserved : goal.loop-at-preserved
loop-at-preserved c =
    let v = c.loop-at.invariant in
    record {
      within = omega (arith, v.within);
      follows = λ m l h. ⊎_elim
          (λ (x : m < c.loop-at.at). ap (λ i. get_or c.args.blank.now i false) (let z : m ≡ c.loop-at.at - 1 = omega (arith, l, x, c.loop-at-test.true) in z) ∙ c.if-not-blank-at.false)
          (λ (x : c.loop-at.at ≤ m). v.follows m x h)
          (cases_lt m c.loop-at.at);
    }

pub returns-then-not-blank-at : goal.returns-then-not-blank-at
returns-then-not-blank-at c =
    let v = c.loop-at.invariant in
    record { follows = v.follows; before = inr (c.loop-at.at - 1, omega (arith, c.loop-at-test.true), omega (arith, c.loop-at-test.true, v.within), c.if-not-blank-at.true) }

pub returns : goal.returns
returns c = record { follows = c.loop-at.invariant.follows; before = inl (omega (arith, c.loop-at-test.false)) }
