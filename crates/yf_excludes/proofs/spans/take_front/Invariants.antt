use Rattle.yf_excludes.specs.Spans.{Reaches}
use Rattle.yf_excludes.proofs.spans.take_front.Given as goal

abbrev pub invariant-loop-n : goal.invariant-loop-n
invariant-loop-n g l = Reaches g.P.Piece.is_run g.P.Piece.takes l.pieces l.items l.n
