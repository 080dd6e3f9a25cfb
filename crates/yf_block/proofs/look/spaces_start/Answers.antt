use Rattle.std.proofs.Common.{◌<◌, ◌-◌, arith}
use Rattle.yf_block.proofs.Ends.SpacesBack.{space_more}
use Rattle.yf_block.proofs.look.spaces_start.Goals as goal

pub spaces-preserved : goal.spaces-preserved
spaces-preserved c =
    let v = c.spaces.invariant in
    let o = v.order in
    let z : 0 < c.spaces.place = omega (arith, c.spaces-test.true) in
    record {
      order = omega (arith, o);
      spaces = space_more c.args.text.now c.utf8.text c.as_bytes-bytes.result.now c.as_bytes-bytes.ensures.value c.spaces.place (c.args.at - c.spaces.place) _
          z (omega (arith, o, c.requires)) c.if-bytes-place-ne32.false (omega (arith, o, z)) v.spaces;
    }
