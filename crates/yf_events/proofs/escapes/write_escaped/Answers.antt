use Rattle.std.proofs.Common.{[], refl, sym, ap, arith}
use Rattle.std.proofs.KnownBytes.{Appends-nil}
use Rattle.std.proofs.lemmas.Bool.Decides.{nat_tests}
use Rattle.yf_events.specs.Notation.{escaped}
use Rattle.yf_lines.proofs.OutputLemmas.{progress_part, progress_part_broke, writes_refused}
use Rattle.yf_events.proofs.EscapedRuns.{at_run, at_end, at_escape}
use Rattle.yf_events.proofs.escapes.write_escaped.Goals as goal

pub loop-writer-init : goal.loop-writer-init
loop-writer-init g c = record { written = []; split = ap escaped (sym c.as_bytes-rest.ensures.value); appended = Appends-nil _; same = refl }

pub returns-in_err-write_text : goal.returns-in_err-write_text
returns-in_err-write_text g c =
    let run = at_run _ _ _ _ _ _ _ _ _ c.loop-writer.invariant c.plain_len.ensures.within c.plain_len.ensures.plain c.split_at.ensures.front c.split_at.ensures.back in
    let broke = c.in_err-write_text.ensures in
    writes_refused _ _ _ _ _ _ _ c.from_residual.ensures.1 broke.0 (progress_part_broke _ _ _ _ _ _ _ _ _ run broke.1)

pub returns-then-is_empty : goal.returns-then-is_empty
returns-then-is_empty g c =
    let run = at_run _ _ _ _ _ _ _ _ _ c.loop-writer.invariant c.plain_len.ensures.within c.plain_len.ensures.plain c.split_at.ensures.front c.split_at.ensures.back in
    at_end _ _ _ _ _ _ (progress_part _ _ _ _ _ _ _ _ _ run c.in_ok-write_text.ensures) (grind (arith, nat_tests))

pub returns-in_err-write_escape : goal.returns-in_err-write_escape
returns-in_err-write_escape g c =
    let run = at_run _ _ _ _ _ _ _ _ _ c.loop-writer.invariant c.plain_len.ensures.within c.plain_len.ensures.plain c.split_at.ensures.front c.split_at.ensures.back in
    let escape = at_escape _ _ _ _ _ _ (progress_part _ _ _ _ _ _ _ _ _ run c.in_ok-write_text.ensures) (grind (arith, nat_tests)) in
    let broke = c.in_err-write_escape.ensures in
    writes_refused _ _ _ _ _ _ _ c.from_residual-in_err-write_escape.ensures.1 broke.0 (progress_part_broke _ _ _ _ _ _ _ _ _ escape broke.1)

pub loop-writer-preserved : goal.loop-writer-preserved
loop-writer-preserved g c =
    let run = at_run _ _ _ _ _ _ _ _ _ c.loop-writer.invariant c.plain_len.ensures.within c.plain_len.ensures.plain c.split_at.ensures.front c.split_at.ensures.back in
    let escape = at_escape _ _ _ _ _ _ (progress_part _ _ _ _ _ _ _ _ _ run c.in_ok-write_text.ensures) (grind (arith, nat_tests)) in
    progress_part _ _ _ _ _ _ _ _ _ escape c.in_ok-write_escape.ensures
