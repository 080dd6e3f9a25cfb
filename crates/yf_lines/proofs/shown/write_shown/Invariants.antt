-- The bytes still to be written are those that show the remaining bytes of the text.
use Rattle.std.proofs.Common.{drop}
use Rattle.yf_lines.proofs.OutputLemmas.{Progress}
use Rattle.yf_lines.specs.Shown.{shown, shown_after}
use Rattle.yf_lines.proofs.shown.write_shown.Given as goal

abbrev pub invariant-loop-byte : goal.invariant-loop-byte
invariant-loop-byte g l =
    Progress (g.W.Write.contents l.initial.writer) (g.W.Write.contents l.writer)
    (g.W.Sink.has_failed l.initial.writer) (g.W.Sink.has_failed l.writer) (shown l.text)
    (shown_after l.before (drop l.byte-index l.byte-items))
