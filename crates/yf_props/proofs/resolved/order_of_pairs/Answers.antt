use Rattle.std.proofs.Common.{◌∙◌, ◌++◌, sym, ap, append_assoc}
use Rattle.std.specs.Cmp.Lexicographic.{slice_cmp}
use Rattle.std.specs.Ordering.{nat_cmp}
use Rattle.yf_props.proofs.OrderLemmas.{order_by_first, order_by_second, parted}
use Rattle.yf_props.proofs.resolved.order_of_pairs.Goals as goal

pub returns-then-is_ne : goal.returns-then-is_ne
returns-then-is_ne c =
    let start = c.split_at.result.0.now in
    let rest = c.split_at.result.1.now in
    let whole = parted _ c.args.other_front.now c.split_at.ensures.front c.split_at.ensures.back in
    order_by_first nat_cmp c.args.front.now c.args.back.now start (rest ++ c.args.other_back.now) (sym c.split_at.ensures.front_len) c.cmp-found.ensures (sym c.is_ne.ensures ∙ c.if-is_ne.true)
    ∙ ap (slice_cmp nat_cmp (c.args.front.now ++ c.args.back.now)) (sym (append_assoc start rest c.args.other_back.now) ∙ ap (λ w. w ++ c.args.other_back.now) whole)

pub returns : goal.returns
returns c =
    let start = c.split_at.result.0.now in
    let rest = c.split_at.result.1.now in
    let whole = parted _ c.args.other_front.now c.split_at.ensures.front c.split_at.ensures.back in
    order_by_second nat_cmp c.args.front.now c.args.back.now start (rest ++ c.args.other_back.now) (sym c.split_at.ensures.front_len) c.cmp-found.ensures (sym c.is_ne.ensures ∙ c.if-is_ne.false) c.order_of_one.ensures
    ∙ ap (slice_cmp nat_cmp (c.args.front.now ++ c.args.back.now)) (sym (append_assoc start rest c.args.other_back.now) ∙ ap (λ w. w ++ c.args.other_back.now) whole)
