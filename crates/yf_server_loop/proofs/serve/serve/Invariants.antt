-- Each turn of the loop has read and handled one message and written its response.
use Rattle.yf_server_loop.specs.Sessions.{moment_of}
use Rattle.yf_server_loop.proofs.SessionLemmas.{InSession}
use Rattle.yf_server_loop.proofs.serve.serve.Given as goal

abbrev pub invariant-loop-count : goal.invariant-loop-count
invariant-loop-count g l = InSession (g.A.Analysis.claim l.analysis)
    (moment_of g.R.Read.remaining g.R.Source.has_failed g.W.Write.contents g.W.Sink.has_failed l.fn.reader l.fn.writer)
    (moment_of g.R.Read.remaining g.R.Source.has_failed g.W.Write.contents g.W.Sink.has_failed l.reader l.writer)
    l.server l.inbox.items l._count
