-- The rest of the events is still to be written.
use Rattle.std.proofs.Common.{drop}
use Rattle.std.specs.List.{zip}
use Rattle.yf_lines.proofs.OutputLemmas.{Progress}
use Rattle.yf_events.specs.Notation.{notation, notation_of}
use Rattle.yf_events.specs.Reading.{events_of}
use Rattle.yf_events.proofs.notation.write_events.Given as goal

abbrev pub invariant-loop-i : goal.invariant-loop-i
invariant-loop-i g l = Progress (g.W.Write.contents l.initial.writer) (g.W.Write.contents l.writer)
    (g.W.Sink.has_failed l.initial.writer) (g.W.Sink.has_failed l.writer) (notation_of l.reading) (notation (drop l.i (zip (events_of l.reading) l.reading.resolved)))
