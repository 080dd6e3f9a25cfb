use Rattle.std.proofs.Common.{◌≡◌, subst, Some}
use Rattle.std.specs.Prelude.{IfSome, slice_get}
use Rattle.yf_lines.specs.declared.line.Line.{Line}
use Rattle.yf_chars.specs.Chain.{Many}
use Rattle.yf_lines.specs.Lines.{AreLines, LineHolds, is_char}
use Rattle.yf_rule_sets.proofs.Findings.CursorLemmas.{reached_in, cursor_of, reached_more, place_reached}
use Rattle.yf_rule_sets.proofs.facts.places.place_in_line.Goals as goal

pub returns-clause-place : goal.returns-clause-place
returns-clause-place c =
    let v = c.args.src.now in
    let l = c.line-line.result in
    let e : slice_get v.lines c.args.cursor.line ≡ Some l =
    subst (λ w. slice_get w.lines c.args.cursor.line ≡ Some l) c.lines.ensures c.line-line.ensures.item in
    let a : AreLines v.text v.lines = subst (λ w. AreLines w.text w.lines) c.lines.ensures c.line-line.ensures.lines in
    let h : LineHolds l c.args.offset = subst (λ o. IfSome o (λ (m : Line). LineHolds m c.args.offset)) e c.requires.within in
    let r = reached_in v.text v.lines c.args.cursor l c.requires.cursor e in
    let x = c.column_from-column.ensures.characters in
    let m = subst (λ t. Many t is_char c.args.cursor.at c.args.offset x.0) c.text.ensures x.1 in
    place_reached v.text v.lines l c.args.cursor.line c.args.number c.args.offset c.column_from-column.result a e c.requires.number h
    (reached_more v.text l.start c.args.cursor.at c.args.cursor.column c.args.offset c.column_from-column.result x.0 r m x.2 c.requires.boundary c.column_from-column.ensures.room)

pub returns-clause-cursor : goal.returns-clause-cursor
returns-clause-cursor c =
    let v = c.args.src.now in
    let l = c.line-line.result in
    let e : slice_get v.lines c.args.cursor.line ≡ Some l =
    subst (λ w. slice_get w.lines c.args.cursor.line ≡ Some l) c.lines.ensures c.line-line.ensures.item in
    let r = reached_in v.text v.lines c.args.cursor l c.requires.cursor e in
    let x = c.column_from-column.ensures.characters in
    let m = subst (λ t. Many t is_char c.args.cursor.at c.args.offset x.0) c.text.ensures x.1 in
    cursor_of v.text v.lines _ l e
    (reached_more v.text l.start c.args.cursor.at c.args.cursor.column c.args.offset c.column_from-column.result x.0 r m x.2 c.requires.boundary c.column_from-column.ensures.room)
