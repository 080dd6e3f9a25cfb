use Rattle.std.proofs.Common.{chars, ap, rules, sym, ◌∙◌, ◌≡◌, length}
use Rattle.std.proofs.lemmas.Str.{chars-IsAscii, chars_from_encodes}
use Rattle.yf_forms.specs.NormalForms.Measures.{up_to_greatest}
use Rattle.yf_forms.proofs.Texts.WidthLemmas.{not_cut}
use Rattle.yf_forms.proofs.text.width.counted.Goals as goal

pub returns-clause-count : goal.returns-clause-count
returns-clause-count c =
    let e : c.count.result ≡ length (chars c.args.text.now) = search (rules, chars_from_encodes) in
    sym (not_cut c.count.result c.count.type_inv) ∙ ap (λ n. up_to_greatest n) e

pub returns-then-is_ascii-clause-count : goal.returns-then-is_ascii-clause-count
returns-then-is_ascii-clause-count c =
    sym (not_cut c.byte_count.result c.byte_count.type_inv)
    ∙ ap (λ n. up_to_greatest n) (c.byte_count.ensures ∙ sym (ap length (chars-IsAscii c.args.text.now c.if-is_ascii.ensures.cases)))
