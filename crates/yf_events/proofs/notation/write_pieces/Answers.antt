use Rattle.yf_lines.proofs.OutputLemmas.{progress_part, progress_part_broke, writes_refused}
use Rattle.yf_events.specs.Pieces.{piece_bytes}
use Rattle.yf_events.proofs.PieceRuns.{next_item}
use Rattle.yf_events.proofs.notation.write_pieces.Goals as goal

pub returns-in_err-write_piece : goal.returns-in_err-write_piece
returns-in_err-write_piece g c =
    let left = rw (← c.piece-item.is) at (next_item piece_bytes _ _ _ _ _ c.args.pieces.now c.loop-piece.piece-index c.piece-item.result c.loop-piece-test.true c.loop-piece.invariant) in
    let broke = c.in_err-write_piece.ensures in
    writes_refused _ _ _ _ _ _ _ c.from_residual.ensures.1 broke.0 (progress_part_broke _ _ _ _ _ _ _ _ _ left broke.1)

pub loop-piece-preserved : goal.loop-piece-preserved
loop-piece-preserved g c =
    let left = rw (← c.piece-item.is) at (next_item piece_bytes _ _ _ _ _ c.args.pieces.now c.loop-piece.piece-index c.piece-item.result c.loop-piece-test.true c.loop-piece.invariant) in
    progress_part _ _ _ _ _ _ _ _ _ left c.in_ok-write_piece.ensures
