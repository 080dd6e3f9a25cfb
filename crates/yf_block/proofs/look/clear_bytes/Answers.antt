use Rattle.std.proofs.Common.{ltb, sym, ap, ◌∙◌, arith, w8}
use Rattle.std.proofs.lemmas.Simd.{length-chunk, bitmask_splat, leading_from_mask_l, trailing_mask_l}
use lib.Count.{count_trailing_zeros}
use lib.Lanes.{chunk}
use Rattle.yf_block.proofs.look.clear_bytes.Goals as goal

pub returns-then-low-eq0 : goal.returns-then-low-eq0
returns-then-low-eq0 c =
    let v = chunk c.args.at 16 c.args.bytes.now in
    let long = length-chunk c.args.at 16 c.args.bytes.now c.requires in
    let low = bitmask_splat w8 ltb v 16 14 long (omega arith) in
    sym (leading_from_mask_l (λ x. ltb x 14) v (sym low ∙ c.if-low-eq0.true) ∙ long)

pub returns : goal.returns
returns c =
    let v = chunk c.args.at 16 c.args.bytes.now in
    let long = length-chunk c.args.at 16 c.args.bytes.now c.requires in
    let low = bitmask_splat w8 ltb v 16 14 long (omega arith) in
    ap (count_trailing_zeros 64) low ∙ trailing_mask_l (λ x. ltb x 14) 64 v (omega arith) (omega (arith, low, c.if-low-eq0.false))
