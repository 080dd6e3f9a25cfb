use Rattle.std.proofs.Common.{◌∙◌, ◌++◌, arith, ap, sym}
use Rattle.std.specs.Cmp.Lexicographic.{slice_cmp}
use Rattle.std.specs.Ordering.{nat_cmp}
use Rattle.yf_props.proofs.OrderLemmas.{order_of_short, order_by_first, order_by_second, parted}
use Rattle.yf_props.proofs.resolved.order_of_one.Goals as goal

pub returns-then-text-front : goal.returns-then-text-front
returns-then-text-front c =
    c.cmp.ensures ∙ order_of_short nat_cmp c.args.text.now c.args.front.now c.args.back.now (omega (arith, c.if-text-front.true))

pub returns-then-is_ne : goal.returns-then-is_ne
returns-then-is_ne c =
    let whole = parted _ c.args.text.now c.split_at.ensures.front c.split_at.ensures.back in
    order_by_first nat_cmp c.split_at.result.0.now c.split_at.result.1.now c.args.front.now c.args.back.now c.split_at.ensures.front_len c.cmp-found.ensures (sym c.is_ne.ensures ∙ c.if-is_ne.true)
    ∙ ap (λ w. slice_cmp nat_cmp w (c.args.front.now ++ c.args.back.now)) whole

pub returns : goal.returns
returns c =
    let whole = parted _ c.args.text.now c.split_at.ensures.front c.split_at.ensures.back in
    order_by_second nat_cmp c.split_at.result.0.now c.split_at.result.1.now c.args.front.now c.args.back.now c.split_at.ensures.front_len c.cmp-found.ensures (sym c.is_ne.ensures ∙ c.if-is_ne.false) c.cmp-2.ensures
    ∙ ap (λ w. slice_cmp nat_cmp w (c.args.front.now ++ c.args.back.now)) whole
