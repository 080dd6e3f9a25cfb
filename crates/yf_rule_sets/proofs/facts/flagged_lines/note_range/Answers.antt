use Rattle.std.proofs.Common.{◌≡◌, ◌+◌, Some, ap, sym, subst, arith}
use Rattle.std.specs.Prelude.{slice_get}
use Rattle.yf_lines.specs.Lines.{AreLines}
use Rattle.yf_rule_sets.specs.Passes.LineFlags.{FlagsAdded}
use Rattle.yf_rule_sets.specs.Passes.ScalarLines.{InRange}
use Rattle.yf_rule_sets.proofs.Texts.NotedLemmas.{Until, nothing_noted, line_noted, line_left, lines_noted}
use Rattle.yf_rule_sets.proofs.Texts.ScalarLemmas.{in_range, not_longer, past_range}
use Rattle.yf_rule_sets.proofs.facts.flagged_lines.note_range.Goals as goal
use Rattle.yf_rule_sets.proofs.facts.flagged_lines.note_range.Goals.{then-is_longer, else-is_longer}

pub loop-k-init : goal.loop-k-init
loop-k-init c = record {
  noted = nothing_noted c.args.list.now.items (InRange c.args.src.now.lines c.args.range) c.args.range.first (λ k p. p.from);
  from = omega arith;
}

pub loop-k-preserved : goal.loop-k-preserved
loop-k-preserved c =
    let v = c.args.src.now in
    let b = c.args.range in
    let P = InRange v.lines b in
    let e : slice_get v.lines c.loop-k.k ≡ Some c.line-line.result = subst (λ w. slice_get w.lines c.loop-k.k ≡ Some c.line-line.result) c.lines-lines.ensures c.line-line.ensures.item in
    record {
      noted = elim c.if-is_longer.branch [
        | then-is_longer w ↦
            line_noted c.args.list.now.items c.loop-k.list.items c.if-is_longer.list.items P c.loop-k.k (omega (arith, c.loop-k.list.ok, c.len.ensures, c.loop-k-test.true))
            (in_range v.lines b c.loop-k.k c.line-line.result e c.loop-k.invariant.from c.if-line-range.false w.if-is_longer.ensures)
            (ap (λ l. l.items) w.list-is) c.loop-k.invariant.noted
        | else-is_longer w ↦
            subst (λ xs. FlagsAdded c.args.list.now.items xs (Until P (c.loop-k.k + 1))) (sym (ap (λ l. l.items) w.list-is))
            (line_left c.args.list.now.items c.loop-k.list.items P c.loop-k.k
            (not_longer v.lines b c.loop-k.k c.line-line.result e w.if-is_longer.ensures) c.loop-k.invariant.noted)
      ];
      from = let f = c.loop-k.invariant.from in omega (arith, f);
    }

pub returns-then-line-range : goal.returns-then-line-range
returns-then-line-range c =
    let v = c.args.src.now in
    let a : AreLines v.text v.lines = subst (λ w. AreLines w.text w.lines) c.lines-lines.ensures c.line-line.ensures.lines in
    let e : slice_get v.lines c.loop-k.k ≡ Some c.line-line.result = subst (λ w. slice_get w.lines c.loop-k.k ≡ Some c.line-line.result) c.lines-lines.ensures c.line-line.ensures.item in
    lines_noted _ _ (InRange v.lines c.args.range) c.loop-k.k (λ k l p. past_range v.text v.lines c.args.range c.loop-k.k c.line-line.result a e c.if-line-range.true k p)
    c.loop-k.invariant.noted

pub returns : goal.returns
returns c =
    let n = c.loop-k.invariant.noted in
    lines_noted _ _ (InRange c.args.src.now.lines c.args.range) c.loop-k.k (λ k l p. omega (arith, l, n.len, c.loop-k.list.ok, c.len.ensures, c.loop-k-test.false)) n
