use Rattle.std.proofs.Common.{ℕ, leb, cond, bit_or, refl}
use Rattle.std.proofs.lemmas.Simd.{length-chunk, splat_is_map, zip2_of_maps, zip2_splat}
use lib.Lanes.{chunk}
use Rattle.yf_chars.specs.Class.{is_between}
use Rattle.yf_chars.proofs.LaneLemmas.{lane_run}
use Rattle.yf_plain.specs.Ordinary.{is_outer}
use Rattle.yf_plain.proofs.ordinary.outer_lanes.Goals as goal

pub returns : goal.returns
unfolding is_outer is_between
returns c =
    let v = chunk c.args.at 16 c.args.bytes.now in
    let long = length-chunk c.args.at 16 c.args.bytes.now c.requires in
    lane_run is_outer c.args.bytes.now c.args.at _ _ _ c.requires c.type_inv.bytes c.lanes_before.ensures
    (zip2_of_maps bit_or _ _ v
    (zip2_of_maps (λ a b. cond (leb a b) 255 0) _ _ v (splat_is_map v 16 _ long) (zip2_splat {Y = ℕ} _ v 16 _ long))
    (zip2_splat {Y = ℕ} _ v 16 _ long)) refl
