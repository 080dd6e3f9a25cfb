use Rattle.std.proofs.Common.{◌≡◌, ◌≢◌, ◌<◌, ◌≤◌, ◌+◌, ◌-◌, length, ap, subst, sym, arith}
use Rattle.std.specs.List.Sorted.{IsNonDecreasingBy}
use Rattle.yf_lines.specs.declared.packed_lines.PackedLine.{PackedLine}
use Rattle.yf_lines.specs.Lines.{PlaceOf, LinesBegunAt, ColumnOf}
use Rattle.yf_lines.proofs.PlaceLemmas.{place_in_empty, place_held, place_after, place_unique}
use Rattle.yf_lines.specs.Rows.{lines_of}
use Rattle.yf_lines.proofs.RowLemmas.{begun_table, length_lines, rows_ascend}
use Rattle.yf_lines.proofs.table.LineTable.place.Goals as goal
use Rattle.yf_lines.proofs.table.LineTable.place.Goals.{then-line+else-offset-line, else-line}

pub lines_begun-begun-requires : goal.lines_begun-begun-requires
lines_begun-begun-requires c =
    let t = c.self.inside.text.now in
    subst (λ rs. IsNonDecreasingBy (λ (r : PackedLine). r.start) rs) (sym c.as_slice.ensures.value)
    (rows_ascend t (length t) c.self.inside.rows.items c.self.invariant.lines)

pub line-line-requires : goal.line-line-requires
line-line-requires c =
    let t = c.self.inside.text.now in
    let n = length_lines t (length t) c.self.inside.rows.items in
    let b = c.lines_begun-begun.ensures.bound in
    omega (arith, b, n, ap length c.as_slice.ensures.value, ap (λ v. length v.lines) c.self.view_is, c.if-begun-eq0.false)

pub returns-then-begun-eq0-clause-place : goal.returns-then-begun-eq0-clause-place
returns-then-begun-eq0-clause-place c =
    let t = c.self.inside.text.now in
    let ls = lines_of t (length t) c.self.inside.rows.items in
    let o = c.args.offset in
    let n : LinesBegunAt c.args.self.now.lines o 0 = subst (λ k. LinesBegunAt c.args.self.now.lines o k) c.if-begun-eq0.true (begun_table _ c.self.inside.text.now c.self.inside.rows.items _ c.args.offset c.lines_begun-begun.result c.as_slice.ensures.value c.self.view_is c.lines_begun-begun.ensures.begun) in
    let m : LinesBegunAt ls o 0 = subst (λ w. LinesBegunAt w o 0) (sym (ap (λ w. w.lines) c.self.view_is)) n in
    let w : o ≤ length t = omega (arith, c.requires.0, ap (λ v. length v.text) c.self.view_is) in
    rw (← c.self.view_is) (place_in_empty t ls o c.self.invariant.lines w m)

pub returns-then-offset-line-clause-place : goal.returns-then-offset-line-clause-place
returns-then-offset-line-clause-place c =
    let v = c.args.self.now in
    let o = c.args.offset in
    let k = c.lines_begun-begun.result in
    let e : (k - 1) + 1 ≡ k = omega (arith, c.if-begun-eq0.false) in
    let begun : LinesBegunAt v.lines o ((k - 1) + 1) = subst (λ w. LinesBegunAt v.lines o w) (sym e) (begun_table _ c.self.inside.text.now c.self.inside.rows.items _ c.args.offset c.lines_begun-begun.result c.as_slice.ensures.value c.self.view_is c.lines_begun-begun.ensures.begun) in
    subst (λ w. PlaceOf v.text o (w + 1) 1) e
    (place_after v.text v.lines o (k - 1) c.line-line.result c.line-line.ensures.lines c.line-line.ensures.item begun c.requires.0 c.if-line.true c.if-offset-line.true)

pub returns-clause-place : goal.returns-clause-place
returns-clause-place c =
    let v = c.args.self.now in
    let l = c.line-line.result in
    let o = c.args.offset in
    let k = c.lines_begun-begun.result in
    let e : (k - 1) + 1 ≡ k = omega (arith, c.if-begun-eq0.false) in
    let begun : LinesBegunAt v.lines o ((k - 1) + 1) = subst (λ w. LinesBegunAt v.lines o w) (sym e) (begun_table _ c.self.inside.text.now c.self.inside.rows.items _ c.args.offset c.lines_begun-begun.result c.as_slice.ensures.value c.self.view_is c.lines_begun-begun.ensures.begun) in
    let not_after : l.end < l.next → o ≢ l.next =
    elim c.if-line.branch [
      | then-line+else-offset-line w ↦ λ _ q. w.if-offset-line.false q
      | else-line w ↦ λ h q. let n = w.if-line.false in absurd (omega (arith, n))
    ] in
    let column : ColumnOf v.text l.start o c.column_in_line.result =
    subst (λ w. ColumnOf w l.start o c.column_in_line.result) (ap (λ w. w.text) c.self.view_is) c.column_in_line.ensures in
    subst (λ w. PlaceOf v.text o w c.column_in_line.result) e
    (place_held v.text v.lines o (k - 1) l c.line-line.ensures.lines c.line-line.ensures.item begun c.requires.0 c.column_in_line.result not_after column)

pub returns-then-begun-eq0-clause-only : goal.returns-then-begun-eq0-clause-only
returns-then-begun-eq0-clause-only c = λ line column p. place_unique p (returns-then-begun-eq0-clause-place c)

pub returns-then-offset-line-clause-only : goal.returns-then-offset-line-clause-only
returns-then-offset-line-clause-only c = λ line column p. place_unique p (returns-then-offset-line-clause-place c)

pub returns-clause-only : goal.returns-clause-only
returns-clause-only c = λ line column p. place_unique p (returns-clause-place c)
