use Rattle.std.proofs.Common.{◌≡◌, subst, Some}
use Rattle.std.specs.Prelude.{IfSome, slice_get}
use Rattle.yf_lines.specs.declared.line.Line.{Line}
use Rattle.yf_lines.specs.Lines.{AreLines, LineHolds}
use Rattle.yf_rule_sets.proofs.Findings.CursorLemmas.{reached_in, place_among}
use Rattle.yf_rule_sets.proofs.facts.places.place_at_mark.Goals as goal

pub returns-clause-place : goal.returns-clause-place
returns-clause-place c =
    let v = c.args.src.now in
    let l = c.line-line.result in
    let e : slice_get v.lines c.args.cursor.line ≡ Some l =
    subst (λ w. slice_get w.lines c.args.cursor.line ≡ Some l) c.lines.ensures c.line-line.ensures.item in
    let a : AreLines v.text v.lines = subst (λ w. AreLines w.text w.lines) c.lines.ensures c.line-line.ensures.lines in
    let h : LineHolds l c.args.offset = subst (λ o. IfSome o (λ (m : Line). LineHolds m c.args.offset)) e c.requires.within in
    let r = reached_in v.text v.lines c.args.cursor l c.requires.cursor e in
    place_among v.text v.lines l c.args.cursor.line c.args.number c.args.cursor.at c.args.cursor.column c.args.offset a e c.requires.number h r
    c.requires.first c.requires.order
