use Rattle.std.proofs.Common.{◌∙◌, ◌++◌, sym}
use Rattle.yf_props.proofs.OrderLemmas.{order_turned}
use Rattle.yf_props.proofs.resolved.ResolvedTagOrd.cmp.Goals as goal

pub returns : goal.returns
returns c =
    order_turned c.as_bytes-prefix.result.now c.as_bytes-suffix.result.now c.as_bytes-other_prefix.result.now c.as_bytes-other_suffix.result.now
    (c.parts.ensures ∙ sym (λ i. c.as_bytes-prefix.ensures.value i ++ c.as_bytes-suffix.ensures.value i))
    (c.parts-2.ensures ∙ sym (λ i. c.as_bytes-other_prefix.ensures.value i ++ c.as_bytes-other_suffix.ensures.value i))
    c.order_of_pairs-2.ensures c.reverse.ensures
