use Rattle.yf_lines.proofs.OutputLemmas.{broke_first, writes_second, writes_refused}
use Rattle.yf_events.proofs.EscapedRuns.{escaped_parts}
use Rattle.yf_events.proofs.notation.write_resolved.Goals as goal

pub returns-in_err-write_escaped : goal.returns-in_err-write_escaped
returns-in_err-write_escaped g c =
    let broke = c.in_err-write_escaped.ensures in
    rw (escaped_parts c.parts.result.0.now c.parts.result.1.now c.parts.ensures)
    (writes_refused _ _ _ _ _ _ _ c.from_residual.ensures.1 broke.0 (broke_first _ _ _ _ _ broke.1))

pub returns : goal.returns
returns g c =
    rw (escaped_parts c.parts.result.0.now c.parts.result.1.now c.parts.ensures)
    (writes_second _ _ _ _ _ _ _ _ _ c.in_ok-write_escaped.ensures c.write_escaped-2.ensures)
