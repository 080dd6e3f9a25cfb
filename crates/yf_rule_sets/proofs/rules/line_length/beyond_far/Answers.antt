use Rattle.std.proofs.Common.{◌≡◌, subst, Some}
use Rattle.std.specs.Prelude.{slice_get}
use Rattle.yf_lines.specs.Lines.{Marks}
use Rattle.yf_rule_sets.specs.RuleSets.ByLine.{IsAfterChars}
use Rattle.yf_rule_sets.specs.RuleSets.Exact.{IsTheOne}
use Rattle.yf_rule_sets.proofs.RuleSets.RunLemmas.{line_answers}
use Rattle.yf_rule_sets.proofs.rules.line_length.beyond_far.Goals as goal

pub returns : goal.returns
returns c =
    let v = c.args.src.now in
    let l = c.line-line.result in
    let s = c.skip_marks-start.result in
    let e : slice_get v.lines c.args.k ≡ Some l = subst (λ w. slice_get w.lines c.args.k ≡ Some l) c.lines.ensures c.line-line.ensures.item in
    let m : Marks v.text l.start s = subst (λ t. Marks t l.start s) c.text.ensures c.skip_marks-start.ensures.marks in
    let a : IsTheOne (IsAfterChars v.text s l.end c.args.max_line) c.after_chars.result =
    subst (λ t. IsTheOne (IsAfterChars t s l.end c.args.max_line) c.after_chars.result) c.text-2.ensures c.after_chars.ensures in
    line_answers v c.args.max_line c.args.k l s c.after_chars.result e m a
