use Rattle.std.proofs.Common.{◌≡◌, ◌-◌, ◌<◌, get_or, subst, ◌∙◌, arith, Some}
use Rattle.std.specs.Prelude.{slice_get}
use Rattle.std.specs.Str.{IsUtf8}
use Rattle.std.proofs.lemmas.Bool.{ltb-true}
use Rattle.yf_lines.proofs.LineLemmas.{end_within}
use Rattle.yf_lines.specs.Lines.{IsLine}
use Rattle.yf_rule_sets.proofs.Texts.LastLemmas.{line_in_text, same_line}
use Rattle.yf_rule_sets.proofs.facts.whites.ends_in_text.Goals as goal

pub returns : goal.returns
returns c = λ e l f.
    let v = c.args.src.now in
    let line = c.line-line.result in
    let bytes = c.as_bytes-bytes.result.now in
    let t : bytes ≡ v.text = c.as_bytes-bytes.ensures.value ∙ c.text.ensures in
    let g : slice_get v.lines c.args.k ≡ Some line = subst (λ w. slice_get w.lines c.args.k ≡ Some line) c.lines.ensures c.line-line.ensures.item in
    let is : IsLine v.text line = subst (λ w. IsLine w.text line) c.lines.ensures c.line-line.ensures.line in
    let feed : get_or v.text (line.next - 1) 0 ≡ 10 = subst (λ w. get_or w (line.next - 1) 0 ≡ 10) t c.if-bytes-line-ne10.false in
    let last : 32 < get_or v.text (line.next - 2) 0 = subst (λ w. 32 < get_or w (line.next - 2) 0) t (ltb-true 32 _ e) in
    same_line v c.args.k line l g f (line_in_text v.text line (subst IsUtf8 c.text.ensures c.text.utf8) is (omega (arith, c.if-line-lt2.false)) (end_within is.ends).1 feed last)
