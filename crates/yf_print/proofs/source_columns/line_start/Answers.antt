use Rattle.std.proofs.Common.{◌-◌, refl, sym, ◌∙◌}
use Rattle.yf_print.specs.Layouts.SourceColumns.{counts}
use Rattle.yf_print.proofs.Pass.KnownLines.{after_break, after_counted, after_mark, after_other, at_known, is_mark, not_mark}
use Rattle.yf_print.proofs.source_columns.line_start.Goals as goal

pub returns-then-is_break_at : goal.returns-then-is_break_at
returns-then-is_break_at c =
    after_break (counts c.args.with_signs) c.args.text.now c.args.known c.back.end (c.back.end - 1) c.back-test.true refl _ c.back.invariant (sym c.is_break_at.ensures ∙ c.if-is_break_at.true)

pub returns-then-is_mark_at : goal.returns-then-is_mark_at
returns-then-is_mark_at c =
    after_mark (counts c.args.with_signs) c.args.text.now c.args.known c.back.end (c.back.end - 1) c.back-test.true refl _ c.back.invariant (sym c.is_break_at.ensures ∙ c.if-is_break_at.false)
    (sym c.counts.ensures ∙ c.if-not-counts.true) (is_mark c.args.text.now _ _ c.saturating_sub.ensures c.if-is_mark_at.ensures)

pub returns-then-not-counts : goal.returns-then-not-counts
returns-then-not-counts c =
    after_other (counts c.args.with_signs) c.args.text.now c.args.known c.back.end (c.back.end - 1) c.back-test.true refl _ c.back.invariant (sym c.is_break_at.ensures ∙ c.if-is_break_at.false)
    (sym c.counts.ensures ∙ c.if-not-counts.true) (not_mark c.args.text.now _ _ c.saturating_sub.ensures c.if-is_mark_at.ensures)

pub back-preserved : goal.back-preserved
back-preserved c =
    after_counted (counts c.args.with_signs) c.args.text.now c.args.known c.back.end (c.back.end - 1) c.back-test.true refl _ c.back.invariant (sym c.is_break_at.ensures ∙ c.if-is_break_at.false)
    (sym c.counts.ensures ∙ c.if-not-counts.false)

pub returns : goal.returns
returns c = at_known (counts c.args.with_signs) c.args.text.now c.args.known c.back.end _ c.back-test.false c.back.invariant
