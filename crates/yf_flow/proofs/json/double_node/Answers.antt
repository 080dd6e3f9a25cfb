use Rattle.std.proofs.Common.{refl, arith, rules, to_z-of_z, SFits, w32, ◌∙◌}
use Rattle.std.proofs.lemmas.Result.{IfOk-weaker}
use Rattle.yf_flow.proofs.Content.BegunLemmas.{double_leaf, double_none, leaf_begins}
use Rattle.yf_flow.proofs.Ends.LeafLemmas.{boundaries_more}
use Rattle.yf_flow.proofs.json.double_node.Goals as goal

pub returns-in_ok-keep_escapes-in-Some : goal.returns-in_ok-keep_escapes-in-Some
returns-in_ok-keep_escapes-in-Some c =
    let d = c.in_ok-text.ensures in
    let fits : SFits w32 c.args.cursor.now.scene.indentation = search rules in
    let r = rw (to_z-of_z fits, c.in-Some.is) at d.reads in
    let k = c.in_ok-keep_escapes-in-Some.ensures in
    let o = rw c.in-Some.is at d.order in
    IfOk-weaker _ _ _
    (λ b p.
    leaf_begins b p (record { boundary = rw c.in-Some.is at d.boundary; order = omega (arith, o) }) refl
    (boundaries_more _ _ _ _ k c.requires.awaited.escapes (rw c.in-Some.is at d.place))
    (double_leaf _ r.0 c.requires.quote r.1 r.3 _ p.events refl p.comments (p.escapes ∙ (rw r.2 at k)))) c.push_leaf.ensures

pub returns-in-None : goal.returns-in-None
returns-in-None c = let fits : SFits w32 c.args.cursor.now.scene.indentation = search rules in record {
  exact = double_none c.requires.quote (rw (to_z-of_z fits, c.in-None.is) at c.in_ok-text.ensures.reads);
  begun = tt;
  grows = omega arith;
  escapes = c.requires.awaited.escapes;
}
