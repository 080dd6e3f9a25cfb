use Rattle.yf_lines.proofs.OutputLemmas.{broke_first, broke_second, writes_second, writes_refused}
use Rattle.yf_events.proofs.notation.write_tag.Goals as goal

pub returns-in_err-write_text-in-Some : goal.returns-in_err-write_text-in-Some
returns-in_err-write_text-in-Some g c =
    let broke = c.in_err-write_text-in-Some.ensures in
    rw c.in-Some.is (writes_refused _ _ _ _ _ _ _ c.from_residual.ensures.1 broke.0 (broke_first _ _ _ _ _ broke.1))

pub returns-in_err-write_resolved-in-Some : goal.returns-in_err-write_resolved-in-Some
returns-in_err-write_resolved-in-Some g c =
    let broke = c.in_err-write_resolved-in-Some.ensures in
    rw c.in-Some.is (writes_refused _ _ _ _ _ _ _ c.from_residual-in_err-write_resolved-in-Some.ensures.1 broke.0
    (broke_second _ _ _ _ _ _ _ _ c.in_ok-write_text-in-Some.ensures (broke_first _ _ _ _ _ broke.1)))

pub returns-in_ok-write_resolved-in-Some : goal.returns-in_ok-write_resolved-in-Some
returns-in_ok-write_resolved-in-Some g c =
    rw c.in-Some.is (writes_second _ _ _ _ _ _ _ _ _ c.in_ok-write_text-in-Some.ensures
    (writes_second _ _ _ _ _ _ _ _ _ c.in_ok-write_resolved-in-Some.ensures c.write_text-in-Some.ensures))
