use Rattle.std.proofs.Common.{◌≡◌, ◌-◌, Some, subst}
use Rattle.std.specs.Prelude.{slice_get}
use Rattle.yf_lines.specs.Lines.{AreLines}
use Rattle.yf_rule_sets.proofs.RuleSets.BlankLemmas.{line_holds, no_line_holds}
use Rattle.yf_rule_sets.proofs.facts.notes.note_line.Goals as goal

pub returns-then-offset-line : goal.returns-then-offset-line
returns-then-offset-line c =
    let v = c.args.src.now in
    let n = c.lines_begun-begun.result in
    let a : AreLines v.text v.lines = subst (λ w. AreLines w.text w.lines) c.lines.ensures c.line.ensures.lines in
    let e : slice_get v.lines (n - 1) ≡ Some c.line.result = subst (λ w. slice_get w.lines (n - 1) ≡ Some c.line.result) c.lines.ensures c.line.ensures.item in
    line_holds v c.args.list.now.items c.args.offset n c.line.result a c.requires c.lines_begun-begun.ensures.within c.lines_begun-begun.ensures.begun c.if-begun-gt0.true e c.if-offset-line.true

pub returns-else-offset-line : goal.returns-else-offset-line
returns-else-offset-line c =
    let v = c.args.src.now in
    let n = c.lines_begun-begun.result in
    let a : AreLines v.text v.lines = subst (λ w. AreLines w.text w.lines) c.lines.ensures c.line.ensures.lines in
    let e : slice_get v.lines (n - 1) ≡ Some c.line.result = subst (λ w. slice_get w.lines (n - 1) ≡ Some c.line.result) c.lines.ensures c.line.ensures.item in
    no_line_holds v c.args.list.now.items c.args.offset n c.line.result a c.lines_begun-begun.ensures.within c.lines_begun-begun.ensures.begun e c.if-offset-line.false
