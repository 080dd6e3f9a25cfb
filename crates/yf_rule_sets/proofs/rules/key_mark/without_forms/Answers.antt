use Rattle.std.proofs.Common.{◌<◌, ◌+◌, ◌∙◌, ◌++◌, [], ◌∷◌, ap, drop, length, refl, reverse, sym, arith}
use Rattle.std.proofs.lemmas.List.{length-append}
use Rattle.yf_rule_sets.specs.Passes.BlockKeys.{next_role, roles}
use Rattle.yf_rule_sets.specs.RuleSets.Layouts.{NeedlessMark}
use Rattle.yf_rule_sets.proofs.RuleSets.BlockKeyLemmas.{event_passed}
use Rattle.yf_rule_sets.proofs.RuleSets.KeyPassLemmas.{event_at}
use Rattle.yf_rule_sets.proofs.RuleSets.NeedlessLemmas.{atom_answer, marked_within}
use Rattle.yf_rule_sets.proofs.Texts.ExactLemmas.{all_found_upto, answer_found, none_yet}
use Rattle.yf_rule_sets.proofs.rules.key_mark.without_forms.Goals as goal

pub loop-i-init : goal.loop-i-init
loop-i-init c =
    let r = c.args.reading.now in
    ([], refl, ap (λ xs. roles (reverse xs) r.events) (sym c.new-stack.ensures.items), λ w. none_yet _ _ c.new-offsets.ensures.items)

pub loop-i-preserved : goal.loop-i-preserved
loop-i-preserved c =
    let r = c.args.reading.now in
    let i = c.loop-i.i in
    let v = c.loop-i.invariant in
    let st = reverse c.loop-i.stack.items in
    let l : i < length r.events = omega (arith, c.len-i-end.ensures, c.loop-i-test.true) in
    let x = event_at r i l in
    let p = event_passed r.events i st v.0 x.0 v.1 x.1 v.2 in
    let before = v.0 ++ next_role st ∷ [] in (
      before,
      let n = length-append v.0 (next_role st ∷ []) in omega (arith, n, v.1),
      p.1 ∙ ap (λ s. before ++ roles s (drop (i + 1) r.events)) (sym (c.in_ok-role.ensures.stack x.0.event x.2)),
      λ w. answer_found (NeedlessMark c.args.src.now r c.args.style.now w.trees) i _ _ c.in-Some.mark (v.3 w)
          (atom_answer c.args.src.now r c.args.style.now w i x.0 x.1 st c.in_ok-role.role p.0 (c.in_ok-role.ensures.role x.0.event x.2)
          c.in-Some.mark (c.in-Some.ensures x.0.event x.2))
          c.in_ok-push_found-in-Some.ensures,
    )

pub returns : goal.returns
returns c = λ w.
    all_found_upto _ _ c.loop-i.i c.loop-i.offsets.items (c.loop-i.invariant.3 w) (λ k x l p. p)
    (λ k x p. (let h = marked_within p.marked in omega (arith, h, c.len-i-end.ensures, c.loop-i-test.false), p))
