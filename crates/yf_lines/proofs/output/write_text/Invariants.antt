-- The bytes removed from `rest` were appended, and no write has failed.
use Rattle.std.proofs.Common.{length}
use Rattle.yf_lines.proofs.OutputLemmas.{Progress}
use Rattle.yf_lines.proofs.output.write_text.Given as goal

abbrev pub invariant-loop-rest : goal.invariant-loop-rest
invariant-loop-rest g l = Progress (g.W.Write.contents l.initial.writer) (g.W.Write.contents l.writer)
    (g.W.Sink.has_failed l.initial.writer) (g.W.Sink.has_failed l.writer) l.initial.rest l.rest

abbrev pub decreases-loop-rest : goal.decreases-loop-rest
decreases-loop-rest g l = length l.rest
