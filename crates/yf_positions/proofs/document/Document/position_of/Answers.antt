use Rattle.std.proofs.Common.{◌≡◌, ◌≤◌, ap, ◌∙◌, arith}
use Rattle.yf_positions.specs.Lines.{lines_before, line_start}
use Rattle.yf_positions.proofs.LineLemmas.{start_below}
use Rattle.yf_positions.proofs.document.Document.position_of.Goals as goal

pub column_at-requires-clause-order : goal.column_at-requires-clause-order
column_at-requires-clause-order c =
    let bytes = c.as_bytes-bytes.result.now in
    let at = c.character_start-at.result in
    let start : c.line_start-start.result ≡ line_start c.as_bytes-bytes.result.now
    (lines_before c.as_bytes-bytes.result.now c.character_start-at.result) = c.line_start-start.ensures.exact
    ∙ ap (line_start bytes) c.line_at-line.ensures.exact in
    let below : line_start c.as_bytes-bytes.result.now
    (lines_before c.as_bytes-bytes.result.now c.character_start-at.result) ≤ c.character_start-at.result =
    start_below bytes (lines_before bytes at) at (omega arith) in
    omega arith
