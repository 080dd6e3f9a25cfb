-- The rest of the text is still to be written.
use Rattle.std.proofs.Common.{length}
use Rattle.yf_events.specs.Notation.{escaped}
use Rattle.yf_lines.proofs.OutputLemmas.{Progress}
use Rattle.yf_events.proofs.escapes.write_escaped.Given as goal

abbrev pub invariant-loop-writer : goal.invariant-loop-writer
invariant-loop-writer g l = Progress (g.W.Write.contents l.initial.writer) (g.W.Write.contents l.writer)
    (g.W.Sink.has_failed l.initial.writer) (g.W.Sink.has_failed l.writer) (escaped l.text) (escaped l.rest)

abbrev pub decreases-loop-writer : goal.decreases-loop-writer
decreases-loop-writer g l = length l.rest
