use Rattle.std.proofs.Common.{◌≡◌, ap, sym, ◌∙◌, ◌+◌, arith, chars, length, flat_map, map-id}
use Rattle.std.proofs.lemmas.Iterator.{YieldsList-from_chars}
use Rattle.std.proofs.lemmas.Iterator.Consumers.{YieldsList-end}
use Rattle.yf_chars.specs.Escape.{spelled}
use Rattle.yf_lines.specs.declared.invisible.Invisible.TheVariants.{Plain}
use Rattle.yf_forms.specs.NormalForms.Measures.{up_to_greatest}
use Rattle.yf_forms.proofs.Texts.WidthLemmas.{one_counted, double_width}
use Rattle.yf_chars.proofs.CommonLemmas.{common_spelling}
use Rattle.yf_forms.proofs.text.width.double_width.Goals as goal

pub returns-then-are_common : goal.returns-then-are_common
returns-then-are_common c =
    let spelling = common_spelling c.args.text.now (c.are_common.ensures.common c.if-are_common.true) in
    let count : length (flat_map spelled (chars c.args.text.now)) ≡ length c.args.text.now = ap length spelling in
    c.saturating_add.ensures ∙ ap (λ n. up_to_greatest n) (omega (arith, c.byte_count.ensures, count, double_width Plain c.args.text.now c.utf8.text))

pub loop-c-preserved : goal.loop-c-preserved
loop-c-preserved c =
    one_counted spelled c.loop-c.yielded c.in-Some.c c.loop-c.width c.saturating_add-width.result c.loop-c.invariant
    (c.saturating_add-width.ensures ∙ ap (λ n. up_to_greatest (c.loop-c.width + n)) c.spelled_width.ensures)

pub returns : goal.returns
returns c =
    let done = YieldsList-end (YieldsList-from_chars c.args.text.now c.utf8.text cc) c.loop-c.yielded _ c.loop-c.yielded_by _ _ c.in-None.is c.next.ensures.steps in
    c.loop-c.invariant ∙ ap (λ n. up_to_greatest n) (ap (λ xs. 2 + length (flat_map spelled xs)) (sym (map-id c.loop-c.yielded) ∙ done.0) ∙ sym (double_width Plain c.args.text.now c.utf8.text))
