use Rattle.std.proofs.Common.{◌+◌, length}
use Rattle.yf_excludes.specs.Spans.{Within}
use Rattle.yf_excludes.proofs.spans.is_within.Given as goal

abbrev pub invariant-loop-n : goal.invariant-loop-n
invariant-loop-n g l = record {
  forth : Within g.P.Piece.is_run g.P.Piece.takes l.fn.all_pieces l.fn.all_items
      → Within g.P.Piece.is_run g.P.Piece.takes l.pieces l.items;
  back : Within g.P.Piece.is_run g.P.Piece.takes l.pieces l.items
      → Within g.P.Piece.is_run g.P.Piece.takes l.fn.all_pieces l.fn.all_items;
}

abbrev pub decreases-loop-n : goal.decreases-loop-n
decreases-loop-n g l = length l.pieces + length l.items
