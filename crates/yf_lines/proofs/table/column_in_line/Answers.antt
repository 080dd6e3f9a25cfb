use Rattle.std.proofs.Common.{◌≡◌, ◌+◌, sym, subst, length, arith}
use Rattle.yf_lines.specs.Lines.{ColumnOf}
use Rattle.yf_lines.specs.Lines.ColumnOf.{among_marks, after_marks}
use Rattle.yf_lines.proofs.table.column_in_line.Goals as goal

pub returns-then-offset-at : goal.returns-then-offset-at
returns-then-offset-at c = among_marks c.skip_marks-at.ensures.marks (omega arith)

pub returns : goal.returns
returns c =
    let x = c.column_from.ensures.characters in
    let e : c.column_from.result ≡ length x.0 + 1 = omega (arith, x.2) in
    subst (λ k. ColumnOf c.args.text.now c.args.start c.args.offset k) (sym e) (after_marks c.skip_marks-at.ensures.marks x.1)
