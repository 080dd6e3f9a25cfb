use Rattle.std.proofs.Common.{◌≡◌, Some, subst}
use Rattle.std.specs.Prelude.{slice_get, MatchBool}
use Rattle.yf_rule_sets.specs.RuleSets.Whites.{WhitesEnd}
use Rattle.yf_rule_sets.proofs.RuleSets.BlankLemmas.{text_unless, white_unless}
use Rattle.yf_rule_sets.proofs.facts.notes.is_blank.Goals as goal

pub returns-then-ends_in_text : goal.returns-then-ends_in_text
returns-then-ends_in_text c = text_unless c.args.src.now c.args.k c.args.is_inside (c.ends_in_text.ensures c.if-ends_in_text.true)

pub returns : goal.returns
returns c =
    let v = c.args.src.now in
    let l = c.line.result in
    let e : slice_get v.lines c.args.k ≡ Some l = subst (λ w. slice_get w.lines c.args.k ≡ Some l) c.lines.ensures c.line.ensures.item in
    let m : MatchBool c.is_white_line.result (WhitesEnd v.text l.start l.end l.start) (WhitesEnd v.text l.start l.end l.start → ⊥) =
    subst (λ t. MatchBool c.is_white_line.result (WhitesEnd t l.start l.end l.start) (WhitesEnd t l.start l.end l.start → ⊥)) c.text.ensures c.is_white_line.ensures in
    white_unless v c.args.k c.args.is_inside c.is_white_line.result l c.if-is_inside.false e m
