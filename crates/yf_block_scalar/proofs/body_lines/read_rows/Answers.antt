use Rattle.std.proofs.Common.{◌-◌, ◌++◌, ◌∷◌, [], take, arith, ap, ◌∙◌}
use Rattle.yf_block_scalar.proofs.BodyLemmas.{reading_none, reading_empty, reading_content, reading_done, no_line, taken_starts}
use Rattle.yf_block_scalar.proofs.body_lines.read_rows.Goals as goal

pub rows-init : goal.rows-init
rows-init c = record { reading = rw c.new-lines.ensures (reading_none c.args.s.now c.args.indent c.args.at); boundary = c.requires; few = omega arith }

pub rows-preserved-in-Some : goal.rows-preserved-in-Some
rows-preserved-in-Some c =
    let line = c.in-Some.ensures.reads in
    let more = reading_empty c.rows.invariant.reading line.2 line.1 in
    record { reading = rw c.in_ok-push-in-Some.ensures more; boundary = c.in-Some.ensures.boundary; few = omega (arith, c.in-Some.ensures.order, c.rows.invariant.few) }

pub rows-preserved : goal.rows-preserved
rows-preserved c =
    let r = c.rows.invariant.reading in
    let more = reading_content r c.in-Some-content_line.ensures.reads in
    let same = c.in_ok-push-in-Some-content_line.ensures ∙ ap (λ w. c.rows.lines ++ w ∷ []) c.range.ensures.value in
    record { reading = rw same more; boundary = c.in-Some-content_line.ensures.boundary.2; few = omega arith }

pub returns-in-None-content_line-clause-reads : goal.returns-in-None-content_line-clause-reads
returns-in-None-content_line-clause-reads c =
    let d = reading_done c.rows.invariant.reading (no_line c.in-None.ensures.reads c.in-None-content_line.ensures.reads) in
    let same = c.truncate.ensures ∙ ap (λ w. take (w - c.rows.tail) c.rows.lines) c.len.ensures in
    rw same d

pub returns-in-None-content_line-clause-starts : goal.returns-in-None-content_line-clause-starts
returns-in-None-content_line-clause-starts c = λ starts within. taken_starts starts (returns-in-None-content_line-clause-reads c) within
