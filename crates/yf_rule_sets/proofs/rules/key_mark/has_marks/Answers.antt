use Rattle.std.proofs.Common.{◌≡◌, ◌<◌, ◌≤◌, subst, ⊎_elim, arith}
use Rattle.std.proofs.lemmas.Bool.{cases_lt}
use Rattle.yf_rule_sets.specs.RuleSets.QuestionMarks.{IsMarked}
use Rattle.yf_rule_sets.proofs.RuleSets.NeedlessLemmas.{marked_within}
use Rattle.yf_rule_sets.proofs.rules.key_mark.has_marks.Goals as goal

pub loop-i-preserved : goal.loop-i-preserved
loop-i-preserved c = λ k o l m.
    ⊎_elim (λ (h : k < c.loop-i.i). c.loop-i.invariant k o h m)
    (λ (h : c.loop-i.i ≤ k).
    c.in-None.ensures o (subst (λ n. IsMarked c.args.src.now.text c.args.reading.now n o) (let q : k ≡ c.loop-i.i = omega (arith, l, h) in q) m))
    (cases_lt k c.loop-i.i)

pub returns : goal.returns
returns c = λ e k o m. let w = marked_within m in c.loop-i.invariant k o (omega (arith, w, c.len-i-end.ensures, c.loop-i-test.false)) m
