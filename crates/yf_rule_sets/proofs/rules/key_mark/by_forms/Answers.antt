use Rattle.std.proofs.Common.{arith}
use Rattle.yf_rule_sets.specs.RuleSets.Layouts.{NeedlessMark}
use Rattle.yf_rule_sets.specs.Passes.MarkedKeys.{TellsKeys}
use Rattle.yf_rule_sets.proofs.Texts.ExactLemmas.{all_found_upto, answer_found}
use Rattle.yf_rule_sets.proofs.RuleSets.NeedlessLemmas.{marked_within, tells_keys}
use Rattle.yf_rule_sets.proofs.rules.key_mark.by_forms.Goals as goal

pub loop-i-preserved : goal.loop-i-preserved
loop-i-preserved c = λ w.
    let t = c.args.src.now.text in
    let r = c.args.reading.now in
    let s = c.args.style.now in
    let i = c.loop-i.i in
    let v = c.loop-i.invariant w in
    let m = c.in_ok-measures.ensures w.comments in
    let k : TellsKeys t r s w.trees c.in_ok-forms.forms = tells_keys t r s w.trees c.in_ok-forms.forms
    (c.in_ok-forms.ensures.are w.comments t r.comments w.trees w.of_reading w.placed m) in (
      answer_found (NeedlessMark c.args.src.now r s w.trees) i _ _ c.needless.result v.0 (c.needless.ensures s w.trees k v.1) c.in_ok-push_found.ensures,
      c.past_flow-done.ensures.measured _ _ w.trees w.of_reading m v.1,
    )

pub returns : goal.returns
returns c = λ w.
    all_found_upto _ _ c.loop-i.i c.loop-i.offsets.items (c.loop-i.invariant w).0 (λ k x l p. p)
    (λ k x p. (let h = marked_within p.marked in omega (arith, h, c.len-i-end.ensures, c.loop-i-test.false), p))
