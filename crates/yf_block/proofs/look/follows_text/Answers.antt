use Rattle.std.proofs.Common.{arith}
use Rattle.yf_block.proofs.Ends.SpacesBack.{after_line, after_text}
use Rattle.yf_block.proofs.look.follows_text.Goals as goal

pub returns-then-bytes-line-eq10 : goal.returns-then-bytes-line-eq10
returns-then-bytes-line-eq10 c =
    let s = c.spaces_start-line.ensures in
    after_line c.args.text.now c.utf8.text c.as_bytes-bytes.result.now c.as_bytes-bytes.ensures.value c.args.floor c.spaces_start-line.result c.args.at s.order
    (omega (arith, c.if-at-bytes.false, c.as_bytes-bytes.ensures.len)) s.spaces _ (omega arith) c.if-bytes-line-eq10.true c.is_visible.ensures

pub returns : goal.returns
returns c =
    let s = c.spaces_start-line.ensures in
    after_text c.args.text.now c.utf8.text c.as_bytes-bytes.result.now c.as_bytes-bytes.ensures.value c.args.floor c.spaces_start-line.result c.args.at s.order
    (omega (arith, c.if-at-bytes.false, c.as_bytes-bytes.ensures.len)) s.spaces _ (omega arith) c.is_visible-2.ensures
