use Rattle.std.proofs.Common.{◌≡◌, ◌+◌, Some, subst, refl, arith}
use Rattle.std.specs.Prelude.{slice_get}
use Rattle.std.specs.Str.{IsCharBoundary, IsUtf8}
use Rattle.yf_lines.specs.Lines.{IsLine}
use Rattle.yf_rule_sets.proofs.Findings.CursorLemmas.{cursor_of, reached_indent}
use Rattle.yf_rule_sets.proofs.facts.places.indent_cursor.Goals as goal

pub returns-then-found-offset-2 : goal.returns-then-found-offset-2
returns-then-found-offset-2 c =
    let v = c.args.src.now in
    let l = c.line-found.result in
    let s = c.lines-then-line-len.ensures in
    let e : slice_get v.lines c.args.line ≡ Some l = subst (λ w. slice_get w.lines c.args.line ≡ Some l) s c.line-found.ensures.item in
    let n : IsLine v.text l = subst (λ w. IsLine w.text l) s c.line-found.ensures.line in
    let b : IsCharBoundary v.text l.start = subst (λ w. IsCharBoundary w.text l.start) s c.line-found.ensures.cut.start in
    let u : IsUtf8 v.text = subst IsUtf8 c.text-text.ensures c.text-text.utf8 in
    cursor_of v.text v.lines _ l e (reached_indent v.text l.start l.indent (l.start + l.indent) u b n.indented.spaces (omega arith) refl)
