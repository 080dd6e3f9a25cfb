use Rattle.std.proofs.Common.{refl}
use Rattle.yf_rules.specs.Runs.ByteStream.{stream_of}
use Rattle.yf_program.proofs.FurtherLemmas.{told_nothing}
use Rattle.yf_program.proofs.rewrites.report_rewriting.Goals as goal

pub returns-in-Ok : goal.returns-in-Ok
returns-in-Ok g c = (
  c.args.rewritten.now,
  (stream_of g.E.Write.contents g.E.Sink.has_failed c.args.error_stream.now),
  refl,
  rw c.in-Ok.is (refl, record { contents = refl; same = refl }),
  told_nothing c.args.explain _ _,
)
