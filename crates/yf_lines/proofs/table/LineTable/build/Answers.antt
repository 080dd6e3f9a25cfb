use Rattle.std.proofs.Common.{◌≡◌, length, subst, arith}
use Rattle.std.proofs.lemmas.Str.{IsCharBoundary-start}
use Rattle.yf_chars.specs.Chain.Chain.{done}
use Rattle.yf_lines.specs.Rows.{lines_of}
use Rattle.yf_chars.specs.Chain.{Chain}
use Rattle.yf_lines.specs.Lines.{OneLine}
use Rattle.yf_lines.proofs.LineLemmas.{apart_at_start, lines_unique}
use Rattle.yf_lines.proofs.RowLemmas.{lines_more}
use Rattle.yf_lines.proofs.table.LineTable.build.Goals as goal

pub loop-at-init : goal.loop-at-init
loop-at-init c = record {
  lines = rw c.new-rows.ensures.items done;
  boundary = IsCharBoundary-start c.args.text.now c.utf8.text;
  apart = apart_at_start c.args.text.now;
}

pub loop-at-preserved : goal.loop-at-preserved
loop-at-preserved c = record {
  lines = lines_more c.args.text.now c.loop-at.at c.loop-at.rows.items _ c.in_ok-row.row c.read_line-line.result c.in_ok-push.ensures.items
      c.loop-at.invariant.lines c.read_line-line.ensures.line c.in_ok-row.ensures.start c.in_ok-row.ensures.indent;
  boundary = c.read_line-line.ensures.boundary;
  apart = c.read_line-line.ensures.apart;
}

pub returns-clause-only : goal.returns-clause-only
returns-clause-only c = λ ls a.
    let t = c.args.text.now in
    let e : c.loop-at.at ≡ length t = omega (arith, c.loop-at-test.false, c.loop-at.invariant.boundary.0) in
    lines_unique t ls (lines_of t (length t) c.loop-at.rows.items) a
    (subst (λ j. Chain (OneLine t) 0 j (lines_of t j c.loop-at.rows.items)) e c.loop-at.invariant.lines)
