use Rattle.std.proofs.Common.{◌^◌, ◌-◌, ◌≤◌, rules}
use Rattle.yf_server_loop.specs.Sessions.{moment_of}
use Rattle.yf_server_loop.proofs.SessionLemmas.{session_begins, session_ends, session_full, session_goes_on}
use Rattle.yf_server_loop.proofs.serve.serve.Goals as goal

pub loop-count-init : goal.loop-count-init
loop-count-init g c = session_begins (g.A.Analysis.claim c.args.analysis.now)
    (moment_of g.R.Read.remaining g.R.Source.has_failed g.W.Write.contents g.W.Sink.has_failed c.args.reader.now c.args.writer.now)
    c.new-server.result c.new-inbox.result.items c.new-inbox.ensures.items
    (record { phase = c.new-server.ensures.phase; terms = c.new-server.ensures.terms; documents = c.new-server.ensures.documents })

pub returns-in-Some : goal.returns-in-Some
returns-in-Some g c = session_ends (g.A.Analysis.claim c.args.analysis.now)
    (moment_of g.R.Read.remaining g.R.Source.has_failed g.W.Write.contents g.W.Sink.has_failed c.args.reader.now c.args.writer.now)
    (moment_of g.R.Read.remaining g.R.Source.has_failed g.W.Write.contents g.W.Sink.has_failed c.loop-count.reader c.loop-count.writer)
    (moment_of g.R.Read.remaining g.R.Source.has_failed g.W.Write.contents g.W.Sink.has_failed c.turn.new.reader c.turn.new.writer)
    c.loop-count.server c.turn.new.server c.loop-count.inbox.items c.turn.new.inbox.items c.loop-count._count
    c.in-Some.ended c.loop-count.invariant c.in-Some.ensures

pub loop-count-preserved : goal.loop-count-preserved
loop-count-preserved g c = session_goes_on (g.A.Analysis.claim c.args.analysis.now)
    (moment_of g.R.Read.remaining g.R.Source.has_failed g.W.Write.contents g.W.Sink.has_failed c.args.reader.now c.args.writer.now)
    (moment_of g.R.Read.remaining g.R.Source.has_failed g.W.Write.contents g.W.Sink.has_failed c.loop-count.reader c.loop-count.writer)
    (moment_of g.R.Read.remaining g.R.Source.has_failed g.W.Write.contents g.W.Sink.has_failed c.turn.new.reader c.turn.new.writer)
    c.loop-count.server c.turn.new.server c.loop-count.inbox.items c.turn.new.inbox.items c.loop-count._count
    c.loop-count.invariant c.in-None.ensures

pub returns : goal.returns
returns g c =
    let many : 2 ^ 64 - 1 ≤ c.loop-count._count = search rules in
    session_full (g.A.Analysis.claim c.args.analysis.now)
    (moment_of g.R.Read.remaining g.R.Source.has_failed g.W.Write.contents g.W.Sink.has_failed c.args.reader.now c.args.writer.now)
    (moment_of g.R.Read.remaining g.R.Source.has_failed g.W.Write.contents g.W.Sink.has_failed c.loop-count.reader c.loop-count.writer)
    c.loop-count.server c.loop-count.inbox.items c.loop-count._count many c.loop-count.invariant
