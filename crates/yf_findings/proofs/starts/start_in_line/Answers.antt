use Rattle.std.proofs.Common.{◌≡◌, Some, refl, sym, subst, arith}
use Rattle.std.specs.Prelude.{slice_get}
use Rattle.yf_rule_sets.specs.RuleSets.Places.{HasColumn}
use Rattle.yf_rule_sets.proofs.Findings.CursorLemmas.{reached_in}
use Rattle.yf_findings.specs.Ranges.StartOf.{at_marks, in_line}
use Rattle.yf_findings.proofs.StartLemmas.{both_hold, first_fails, second_fails}
use Rattle.yf_findings.proofs.starts.start_in_line.Goals as goal

pub returns-then-is_mark_rule-clause-offset : goal.returns-then-is_mark_rule-clause-offset
returns-then-is_mark_rule-clause-offset c =
    let v = c.args.src.now in
    let l = c.line-line.result in
    let e : slice_get v.lines c.args.cursor.line ≡ Some l = subst (λ w. slice_get w.lines c.args.cursor.line ≡ Some l) c.lines.ensures c.line-line.ensures.item in
    let one : c.args.place.column ≡ 1 = omega (arith, c.if-place-eq1.true) in
    at_marks c.args.cursor.line e c.requires.number (both_hold c.args.place.column _ one (rw (← c.is_mark_rule.ensures) c.if-is_mark_rule.true)) refl

pub returns-else-is_mark_rule-clause-offset : goal.returns-else-is_mark_rule-clause-offset
returns-else-is_mark_rule-clause-offset c =
    let v = c.args.src.now in
    let l = c.line-line.result in
    let e : slice_get v.lines c.args.cursor.line ≡ Some l = subst (λ w. slice_get w.lines c.args.cursor.line ≡ Some l) c.lines.ensures c.line-line.ensures.item in
    let r = subst (λ k. HasColumn v.text l.start c.args.cursor.at k) (sym c.requires.column) (reached_in v.text v.lines c.args.cursor l c.requires.cursor e) in
    in_line c.args.cursor.line e c.requires.number (second_fails c.args.place.column _ (rw (← c.is_mark_rule.ensures) c.if-is_mark_rule.false)) r

pub returns-else-place-eq1-clause-offset : goal.returns-else-place-eq1-clause-offset
returns-else-place-eq1-clause-offset c =
    let v = c.args.src.now in
    let l = c.line-line.result in
    let e : slice_get v.lines c.args.cursor.line ≡ Some l = subst (λ w. slice_get w.lines c.args.cursor.line ≡ Some l) c.lines.ensures c.line-line.ensures.item in
    let r = subst (λ k. HasColumn v.text l.start c.args.cursor.at k) (sym c.requires.column) (reached_in v.text v.lines c.args.cursor l c.requires.cursor e) in
    in_line c.args.cursor.line e c.requires.number (first_fails c.args.place.column _ c.if-place-eq1.false) r
