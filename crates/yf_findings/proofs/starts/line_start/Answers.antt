use Rattle.std.proofs.Common.{◌≡◌, ◌≤◌, length, subst, ap, arith, Some}
use Rattle.std.specs.Prelude.{slice_get}
use Rattle.std.specs.Str.{IsCharBoundary}
use Rattle.yf_lines.specs.Lines.{Marks}
use Rattle.yf_rule_sets.proofs.Findings.CursorLemmas.{cursor_of, no_cursor, reached_first}
use Rattle.yf_findings.proofs.starts.line_start.Goals as goal

pub returns-then-line-len-clause-cursor : goal.returns-then-line-len-clause-cursor
returns-then-line-len-clause-cursor c =
    let v = c.args.src.now in
    let l = c.line.result in
    let e : slice_get v.lines c.args.line ≡ Some l =
    subst (λ w. slice_get w.lines c.args.line ≡ Some l) c.lines-then-line-len.ensures c.line.ensures.item in
    let m : Marks v.text l.start c.skip_marks.result = subst (λ t. Marks t l.start c.skip_marks.result) c.text.ensures c.skip_marks.ensures.marks in
    let b : IsCharBoundary v.text c.skip_marks.result = subst (λ t. IsCharBoundary t c.skip_marks.result) c.text.ensures c.skip_marks.ensures.boundary in
    cursor_of v.text v.lines _ l e (reached_first v.text l.start c.skip_marks.result m b)

pub returns-clause-cursor : goal.returns-clause-cursor
returns-clause-cursor c =
    let same = ap (λ w. length w.lines) c.lines.ensures in
    let past : length c.args.src.now.lines ≤ c.args.line = omega (arith, same, c.len.ensures.count, c.if-line-len.false) in
    no_cursor c.args.src.now.text c.args.src.now.lines _ past
