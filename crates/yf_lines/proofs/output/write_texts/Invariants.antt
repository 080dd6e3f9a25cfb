-- The remaining parts are still to be written.
use Rattle.std.proofs.Common.{drop}
use Rattle.yf_lines.specs.Output.{texts}
use Rattle.yf_lines.proofs.OutputLemmas.{Progress}
use Rattle.yf_lines.proofs.output.write_texts.Given as goal

abbrev pub invariant-loop-part : goal.invariant-loop-part
invariant-loop-part g l = Progress (g.W.Write.contents l.initial.writer) (g.W.Write.contents l.writer)
    (g.W.Sink.has_failed l.initial.writer) (g.W.Sink.has_failed l.writer) (texts l.parts) (texts (drop l.part-index l.parts))
