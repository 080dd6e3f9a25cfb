use Rattle.yf_lines.proofs.OutputLemmas.{progress_part, progress_part_broke, writes_refused}
use Rattle.yf_lines.proofs.ShownLemmas.{next_byte}
use Rattle.yf_lines.proofs.shown.write_shown.Goals as goal

pub returns-in_err-write_byte : goal.returns-in_err-write_byte
returns-in_err-write_byte g c =
    let left = next_byte _ _ _ _ _ _ c.as_bytes-byte-items.result.now c.loop-byte.byte-index _ c.loop-byte-test.true
    c.loop-byte.invariant in
    let broke = c.in_err-write_byte.ensures in
    writes_refused _ _ _ _ _ _ _ c.from_residual.ensures.1 broke.0 (progress_part_broke _ _ _ _ _ _ _ _ _ left broke.1)

pub loop-byte-preserved : goal.loop-byte-preserved
loop-byte-preserved g c =
    let left = next_byte _ _ _ _ _ _ c.as_bytes-byte-items.result.now c.loop-byte.byte-index _ c.loop-byte-test.true
    c.loop-byte.invariant in
    progress_part _ _ _ _ _ _ _ _ _ left c.in_ok-write_byte.ensures
