-- The rest of the pieces is still to be written.
use Rattle.std.proofs.Common.{drop}
use Rattle.std.specs.List.{flat_map}
use Rattle.yf_lines.proofs.OutputLemmas.{Progress}
use Rattle.yf_events.specs.Pieces.{piece_bytes}
use Rattle.yf_events.proofs.notation.write_pieces.Given as goal

abbrev pub invariant-loop-piece : goal.invariant-loop-piece
invariant-loop-piece g l = Progress (g.W.Write.contents l.initial.writer) (g.W.Write.contents l.writer)
    (g.W.Sink.has_failed l.initial.writer) (g.W.Sink.has_failed l.writer) (flat_map piece_bytes l.pieces) (flat_map piece_bytes (drop l.piece-index l.pieces))
