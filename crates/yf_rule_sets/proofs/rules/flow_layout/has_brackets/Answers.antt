use Rattle.std.proofs.Common.{◌≡◌, ◌<◌, ◌≤◌, subst, ⊎_elim, arith}
use Rattle.std.proofs.lemmas.Bool.{cases_lt}
use Rattle.yf_rule_sets.specs.RuleSets.Layouts.{LayoutFault}
use Rattle.yf_rule_sets.proofs.RuleSets.DisplacedLemmas.{displaced_within, no_brackets}
use Rattle.yf_rule_sets.proofs.rules.flow_layout.has_brackets.Goals as goal

pub loop-i-preserved : goal.loop-i-preserved
loop-i-preserved c = λ house k o l d.
    ⊎_elim (λ (h : k < c.loop-i.i). c.loop-i.invariant house k o h d)
    (λ (h : c.loop-i.i ≤ k).
    no_brackets c.args.src.now c.args.reading.now c.loop-i.i c.in-None.ensures house o
    (subst (λ m. LayoutFault c.args.src.now c.args.reading.now house m o) (let q : k ≡ c.loop-i.i = omega (arith, l, h) in q) d))
    (cases_lt k c.loop-i.i)

pub returns : goal.returns
returns c = λ e house k o d.
    let w = displaced_within d in c.loop-i.invariant house k o (omega (arith, w, c.len-i-end.ensures, c.loop-i-test.false)) d
