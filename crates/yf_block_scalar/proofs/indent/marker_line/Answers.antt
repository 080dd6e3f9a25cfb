use Rattle.std.proofs.Common.{arith}
use Rattle.yf_block_scalar.proofs.BodyLemmas.{marker_past, marker_rest, match_marker}
use Rattle.yf_block_scalar.proofs.indent.marker_line.Goals as goal
use Rattle.yf_lines.proofs.MarkLemmas.{mark_within}

pub overflow_add-place : goal.overflow_add-place
overflow_add-place c =
    let within = mark_within c.args.s.now c.loop-place.place c.utf8.s c.loop-place-test.ensures in
    omega arith

pub loop-place-smaller : goal.loop-place-smaller
loop-place-smaller c =
    let within = mark_within c.args.s.now c.loop-place.place c.utf8.s c.loop-place-test.ensures in
    omega arith

pub loop-place-preserved : goal.loop-place-preserved
loop-place-preserved c =
    let e = c.loop-place-test.ensures in
    let old = c.loop-place.invariant in
    record { back = λ l. old.back (marker_past c.args.s.now c.loop-place.place e l); forth = λ l. marker_rest c.args.s.now c.loop-place.place e (old.forth l) }

pub returns : goal.returns
returns c = match_marker c.is_marker_at.result c.is_marker_at.ensures c.loop-place-test.ensures c.loop-place.invariant.back c.loop-place.invariant.forth
