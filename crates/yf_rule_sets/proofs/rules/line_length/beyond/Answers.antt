use Rattle.std.proofs.Common.{◌≡◌, subst, Some, arith}
use Rattle.std.specs.Prelude.{slice_get}
use Rattle.yf_lines.proofs.LineLemmas.{end_within}
use Rattle.yf_rule_sets.proofs.RuleSets.RunLemmas.{short_line}
use Rattle.yf_rule_sets.proofs.rules.line_length.beyond.Goals as goal

pub returns-then-saturating_sub-max_line : goal.returns-then-saturating_sub-max_line
returns-then-saturating_sub-max_line c =
    let v = c.args.src.now in
    let l = c.line-line.result in
    let e : slice_get v.lines c.args.k ≡ Some l = subst (λ w. slice_get w.lines c.args.k ≡ Some l) c.lines.ensures c.line-line.ensures.item in
    short_line v c.args.max_line c.args.k l e (end_within c.line-line.ensures.line.ends).0 (omega (arith, c.saturating_sub.ensures, c.if-saturating_sub-max_line.true))
