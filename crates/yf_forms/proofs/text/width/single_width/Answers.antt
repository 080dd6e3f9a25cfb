use Rattle.std.proofs.Common.{ap, sym, ◌∙◌, ◌+◌, length, flat_map, map-id}
use Rattle.std.proofs.lemmas.Iterator.{YieldsList-from_chars}
use Rattle.std.proofs.lemmas.Iterator.Consumers.{YieldsList-end}
use Rattle.yf_quoted.specs.Written.{twice}
use Rattle.yf_forms.specs.NormalForms.Measures.{up_to_greatest}
use Rattle.yf_forms.proofs.Texts.WidthLemmas.{one_counted, single_width}
use Rattle.yf_forms.proofs.text.width.single_width.Goals as goal

pub loop-c-preserved : goal.loop-c-preserved
loop-c-preserved c =
    one_counted twice c.loop-c.yielded c.in-Some.c c.loop-c.width c.saturating_add-width.result c.loop-c.invariant
    (c.saturating_add-width.ensures ∙ ap (λ n. up_to_greatest (c.loop-c.width + n)) c.twice_width.ensures)

pub returns : goal.returns
returns c =
    let done = YieldsList-end (YieldsList-from_chars c.args.text.now c.utf8.text cc) c.loop-c.yielded _ c.loop-c.yielded_by _ _ c.in-None.is c.next.ensures.steps in
    c.loop-c.invariant ∙ ap (λ n. up_to_greatest n) (ap (λ xs. 2 + length (flat_map twice xs)) (sym (map-id c.loop-c.yielded) ∙ done.0) ∙ sym (single_width c.args.text.now c.utf8.text))
