-- The remaining findings are still to be written.
use Rattle.std.proofs.Common.{drop}
use Rattle.yf_lines.proofs.OutputLemmas.{Progress}
use Rattle.yf_rules.specs.Runs.Run.{findings_text}
use Rattle.yf_guarded.proofs.lines.write_findings.Given as goal

abbrev pub invariant-loop-finding : goal.invariant-loop-finding
invariant-loop-finding g l = Progress (g.W.Write.contents l.initial.writer) (g.W.Write.contents l.writer)
    (g.W.Sink.has_failed l.initial.writer) (g.W.Sink.has_failed l.writer) (findings_text l.findings) (findings_text (drop l.finding-index l.findings))
