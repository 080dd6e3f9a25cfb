use Rattle.std.proofs.Common.{◌≡◌, ◌<◌, Some, length, sym, ap, subst, arith}
use Rattle.std.specs.List.{slice_get}
use Rattle.yf_lines.specs.Rows.{lines_of}
use Rattle.yf_lines.proofs.RowLemmas.{length_lines}
use Rattle.yf_lines.proofs.TableLemmas.{table_line, table_start, table_cut}
use Rattle.yf_lines.proofs.table.LineTable.line.Goals as goal

pub line_at-requires : goal.line_at-requires
line_at-requires c =
    let t = c.self.inside.text.now in
    let n = length_lines t (length t) c.self.inside.rows.items in
    subst (λ rs. c.args.i < length rs) (sym c.as_slice.ensures.value) (omega (arith, ap (λ v. length v.lines) c.self.view_is, c.requires, n))

there : (c : goal.After-line_at) → slice_get (lines_of c.self.inside.text.now (length c.self.inside.text.now) c.self.inside.rows.items) c.args.i ≡ Some c.line_at.result
there c =
    let t = c.self.inside.text.now in
    subst (λ rs. slice_get (lines_of t (length t) rs) c.args.i ≡ Some c.line_at.result) c.as_slice.ensures.value c.line_at.ensures

pub returns-clause-item : goal.returns-clause-item
returns-clause-item c = rw (← c.self.view_is) (there c)

pub returns-clause-line : goal.returns-clause-line
returns-clause-line c =
    rw (← c.self.view_is) (table_line c.self.inside.text.now _ c.args.i c.line_at.result c.self.invariant.lines (there c))

pub returns-clause-start : goal.returns-clause-start
returns-clause-start c =
    rw (← c.self.view_is) (table_start c.self.inside.text.now _ c.args.i c.line_at.result c.self.invariant.lines (there c))

pub returns-clause-cut : goal.returns-clause-cut
returns-clause-cut c =
    rw (← c.self.view_is) (table_cut c.self.inside.text.now _ c.args.i c.line_at.result c.self.invariant.utf8 c.self.invariant.lines (there c))
