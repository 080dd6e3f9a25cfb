use Rattle.std.proofs.Common.{refl, arith, rules, to_z-of_z, SFits, w32}
use Rattle.std.proofs.lemmas.Result.{IfOk-weaker}
use Rattle.yf_flow.proofs.Content.BegunLemmas.{content_is_at, single_leaf, single_none, leaf_begins}
use Rattle.yf_flow.proofs.json.json_content.Goals as goal

pub returns-in-Some : goal.returns-in-Some
returns-in-Some c =
    let d = c.in_ok-text.ensures in
    let fits : SFits w32 c.args.cursor.now.scene.indentation = search rules in
    let r = rw (to_z-of_z fits, c.in-Some.is) at d.reads in
    let o = rw c.in-Some.is at d.order in
    IfOk-weaker _ _ _
    (λ b p.
    leaf_begins b p (record { boundary = rw c.in-Some.is at d.boundary; order = omega (arith, o) }) refl c.requires.awaited.escapes
    (single_leaf _ r.0 c.if-is_char_at.ensures.cases.char r.1 r.2 p.events p.comments p.escapes)) c.push_leaf.ensures

pub returns-in-None : goal.returns-in-None
returns-in-None c = let fits : SFits w32 c.args.cursor.now.scene.indentation = search rules in record {
  exact = single_none c.if-is_char_at.ensures.cases.char (rw (to_z-of_z fits, c.in-None.is) at c.in_ok-text.ensures.reads);
  begun = tt;
  grows = omega arith;
  escapes = c.requires.awaited.escapes;
}

pub returns : goal.returns
returns c = record {
  exact = content_is_at c.requires.content c.if-is_char_at.ensures.cases c.if-is_char_at-2.ensures.cases c.if-is_char_at-3.ensures.cases c.if-is_char_at-4.ensures.cases;
  begun = tt;
  grows = omega arith;
  escapes = c.requires.awaited.escapes;
}
