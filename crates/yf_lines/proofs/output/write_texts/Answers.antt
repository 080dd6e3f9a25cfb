use Rattle.std.proofs.Common.{◌≡◌, [], refl, drop, drop_of_length-le}
use Rattle.std.proofs.KnownBytes.{Appends-nil}
use Rattle.yf_lines.proofs.OutputLemmas.{progress_done, progress_part, progress_part_broke, writes_refused, next_part}
use Rattle.yf_lines.proofs.output.write_texts.Goals as goal

pub loop-part-init : goal.loop-part-init
loop-part-init g c = record { written = []; split = refl; appended = Appends-nil _; same = refl }

pub returns-in_err-write_text : goal.returns-in_err-write_text
returns-in_err-write_text g c =
    let left = next_part _ _ _ _ _ _ c.args.parts.now c.loop-part.part-index _ c.loop-part-test.true c.as_bytes.ensures.value c.loop-part.invariant in
    let broke = c.in_err-write_text.ensures in
    writes_refused _ _ _ _ _ _ _ c.from_residual.ensures.1 broke.0 (progress_part_broke _ _ _ _ _ _ _ _ _ left broke.1)

pub loop-part-preserved : goal.loop-part-preserved
loop-part-preserved g c =
    let left = next_part _ _ _ _ _ _ c.args.parts.now c.loop-part.part-index _ c.loop-part-test.true c.as_bytes.ensures.value c.loop-part.invariant in
    progress_part _ _ _ _ _ _ _ _ _ left c.in_ok-write_text.ensures

pub returns : goal.returns
returns g c =
    let none : drop c.loop-part.part-index c.args.parts.now ≡ [] = drop_of_length-le c.args.parts.now {i = c.loop-part.part-index} c.loop-part-test.false in
    progress_done _ _ _ _ _ (rw none at c.loop-part.invariant)
