use Rattle.std.proofs.Common.{List, subst, ℕ}
use Rattle.yf_rules.specs.Runs.ByteStream.{WriteEnds, stream_of}
use Rattle.yf_program.proofs.FurtherLemmas.{reached_by}
use Rattle.yf_program.proofs.scope.tell_left_out.Goals as goal

pub returns-then-explain : goal.returns-then-explain
returns-then-explain g c =
    let before = stream_of g.E.Write.contents g.E.Sink.has_failed c.args.error_stream.now in
    let after = stream_of g.E.Write.contents g.E.Sink.has_failed c.write_text.new.writer in
    let ends = subst (λ (line : List ℕ). WriteEnds before after line c.write_text.result) c.as_bytes.ensures.value c.write_text.ensures in
    rw c.if-explain.true (reached_by before after c.write_text.result ends)
