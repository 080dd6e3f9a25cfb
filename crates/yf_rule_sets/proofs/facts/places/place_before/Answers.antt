use Rattle.std.proofs.Common.{◌≡◌, ◌<◌, ◌-◌, length, subst, Some, arith}
use Rattle.std.specs.Prelude.{IfSome, slice_get}
use Rattle.std.specs.Str.{IsUtf8}
use Rattle.yf_lines.specs.declared.line.Line.{Line}
use Rattle.yf_chars.specs.Chain.{Many}
use Rattle.yf_lines.specs.Lines.{AreLines, LineHolds, is_char}
use Rattle.yf_rule_sets.proofs.Findings.BackLemmas.{place_at_marks, reached_before}
use Rattle.yf_rule_sets.proofs.Findings.CursorLemmas.{reached_in, cursor_of, place_reached}
use Rattle.yf_rule_sets.proofs.facts.places.place_before.Goals as goal

pub returns-then-count-cursor-clause-place : goal.returns-then-count-cursor-clause-place
returns-then-count-cursor-clause-place c =
    let v = c.args.src.now in
    let l = c.line-line.result in
    let e : slice_get v.lines c.args.cursor.line ≡ Some l =
    subst (λ w. slice_get w.lines c.args.cursor.line ≡ Some l) c.lines.ensures c.line-line.ensures.item in
    let a : AreLines v.text v.lines = subst (λ w. AreLines w.text w.lines) c.lines.ensures c.line-line.ensures.lines in
    let h : LineHolds l c.args.offset = subst (λ o. IfSome o (λ (m : Line). LineHolds m c.args.offset)) e c.requires.within in
    let r = reached_in v.text v.lines c.args.cursor l c.requires.cursor e in
    let u : IsUtf8 v.text = subst IsUtf8 c.text.ensures c.text.utf8 in
    let y = c.column_from-count.ensures.characters in
    let m = subst (λ t. Many t is_char c.args.offset c.args.cursor.at y.0) c.text.ensures y.1 in
    let few : length y.0 < c.args.cursor.column = omega (arith, y.2, c.if-count-cursor.true) in
    place_reached v.text v.lines l c.args.cursor.line c.args.number c.args.offset (c.args.cursor.column - c.column_from-count.result) a e c.requires.number h
    (reached_before v.text l.start c.args.cursor.at c.args.cursor.column c.args.offset (c.args.cursor.column - c.column_from-count.result) y.0 u r c.requires.boundary m few (omega (arith, y.2)))

pub returns-then-count-cursor-clause-cursor : goal.returns-then-count-cursor-clause-cursor
returns-then-count-cursor-clause-cursor c =
    let v = c.args.src.now in
    let l = c.line-line.result in
    let e : slice_get v.lines c.args.cursor.line ≡ Some l =
    subst (λ w. slice_get w.lines c.args.cursor.line ≡ Some l) c.lines.ensures c.line-line.ensures.item in
    let r = reached_in v.text v.lines c.args.cursor l c.requires.cursor e in
    let u : IsUtf8 v.text = subst IsUtf8 c.text.ensures c.text.utf8 in
    let y = c.column_from-count.ensures.characters in
    let m = subst (λ t. Many t is_char c.args.offset c.args.cursor.at y.0) c.text.ensures y.1 in
    let few : length y.0 < c.args.cursor.column = omega (arith, y.2, c.if-count-cursor.true) in
    cursor_of v.text v.lines _ l e
    (reached_before v.text l.start c.args.cursor.at c.args.cursor.column c.args.offset (c.args.cursor.column - c.column_from-count.result) y.0 u r c.requires.boundary m few (omega (arith, y.2)))

pub returns-clause-place : goal.returns-clause-place
returns-clause-place c =
    let v = c.args.src.now in
    let l = c.line-line.result in
    let e : slice_get v.lines c.args.cursor.line ≡ Some l =
    subst (λ w. slice_get w.lines c.args.cursor.line ≡ Some l) c.lines.ensures c.line-line.ensures.item in
    let a : AreLines v.text v.lines = subst (λ w. AreLines w.text w.lines) c.lines.ensures c.line-line.ensures.lines in
    let h : LineHolds l c.args.offset = subst (λ o. IfSome o (λ (m : Line). LineHolds m c.args.offset)) e c.requires.within in
    let r = reached_in v.text v.lines c.args.cursor l c.requires.cursor e in
    let u : IsUtf8 v.text = subst IsUtf8 c.text.ensures c.text.utf8 in
    let y = c.column_from-count.ensures.characters in
    let m = subst (λ t. Many t is_char c.args.offset c.args.cursor.at y.0) c.text.ensures y.1 in
    place_at_marks v.text v.lines l c.args.cursor.line c.args.number c.args.cursor.at c.args.cursor.column c.args.offset y.0 u a e c.requires.number h r c.requires.boundary m
    (omega (arith, y.2, c.if-count-cursor.false))
