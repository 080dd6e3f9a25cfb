use Rattle.std.proofs.Common.{List, ℕ, Bool, Option, refl, slice_range, subst}
use Rattle.std.proofs.KnownBytes.{Appends-nil}
use Rattle.yf_lines.specs.Output.{Broke, Wrote}
use Rattle.yf_server_loop.specs.Handled.{Handles}
use Rattle.yf_server_loop.specs.Sessions.{moment_of}
use Rattle.yf_server_loop.proofs.SessionLemmas.{advances_by, turn_ended}
use Rattle.yf_server_loop.proofs.serve.turn.Goals as goal

pub returns-in-Err : goal.returns-in-Err
returns-in-Err g c = turn_ended (g.A.Analysis.claim c.args.analysis.now) (g.R.Read.remaining c.args.reader.now)
    (g.R.Read.remaining c.receive.new.reader) (g.W.Write.contents c.args.writer.now)
    (g.R.Source.has_failed c.args.reader.now) (g.R.Source.has_failed c.receive.new.reader)
    (g.W.Sink.has_failed c.args.writer.now) c.args.server.now c.args.server.now c.args.inbox.now.items
    c.receive.new.inbox.items c.in-Err.ended c.in-Err.ensures.grows c.in-Err.ensures.ended

pub returns-in-Err-handle : goal.returns-in-Err-handle
returns-in-Err-handle g c =
    let r = c.in-Ok.ensures.grows in (
      c.receive.new.inbox.items,
      record { more = r.more; read = r.consumed; all = r.added; wrote = record { appended = Appends-nil (g.W.Write.contents c.args.writer.now); same = refl } },
      c.in-Ok.ensures.works,
    )

pub returns-in-None : goal.returns-in-None
returns-in-None g c =
    let claim = g.A.Analysis.claim c.args.analysis.now in
    let grown = c.receive.new.inbox.items in
    let content = c.in-Ok.content in
    let answer = c.in-Ok-handle.handled.answer.items in (
      answer,
      advances_by claim
          (moment_of g.R.Read.remaining g.R.Source.has_failed g.W.Write.contents g.W.Sink.has_failed c.args.reader.now c.args.writer.now)
          (moment_of g.R.Read.remaining g.R.Source.has_failed g.W.Write.contents g.W.Sink.has_failed c.receive.new.reader c.send.new.writer)
          c.args.server.now c.handle.new.server c.args.inbox.now.items grown c.handle.new.inbox.items answer _ content
          c.in-Ok.ensures.grows c.in-Ok.ensures.works c.in-Ok.ensures.message c.in-Ok-handle.ensures.rest
          (subst (λ (e : Option Bool). Handles claim c.args.server.now (slice_range grown content.start content.end) answer c.handle.new.server e)
          c.in-None.is c.in-Ok-handle.ensures.handles),
      subst (λ (t : List ℕ). Wrote (g.W.Write.contents c.args.writer.now) (g.W.Write.contents c.send.new.writer)
          (g.W.Sink.has_failed c.args.writer.now) (g.W.Sink.has_failed c.send.new.writer) t) c.as_slice.ensures.value
          c.in-Ok-send.ensures,
    )

pub returns-in-Ok-send : goal.returns-in-Ok-send
returns-in-Ok-send g c =
    let claim = g.A.Analysis.claim c.args.analysis.now in
    let grown = c.receive.new.inbox.items in
    let content = c.in-Ok.content in
    let answer = c.in-Ok-handle.handled.answer.items in (
      answer,
      advances_by claim
          (moment_of g.R.Read.remaining g.R.Source.has_failed g.W.Write.contents g.W.Sink.has_failed c.args.reader.now c.args.writer.now)
          (moment_of g.R.Read.remaining g.R.Source.has_failed g.W.Write.contents g.W.Sink.has_failed c.receive.new.reader c.send.new.writer)
          c.args.server.now c.handle.new.server c.args.inbox.now.items grown c.handle.new.inbox.items answer _ content
          c.in-Ok.ensures.grows c.in-Ok.ensures.works c.in-Ok.ensures.message c.in-Ok-handle.ensures.rest
          (subst (λ (e : Option Bool). Handles claim c.args.server.now (slice_range grown content.start content.end) answer c.handle.new.server e)
          c.in-Some.is c.in-Ok-handle.ensures.handles),
      subst (λ (t : List ℕ). Wrote (g.W.Write.contents c.args.writer.now) (g.W.Write.contents c.send.new.writer)
          (g.W.Sink.has_failed c.args.writer.now) (g.W.Sink.has_failed c.send.new.writer) t) c.as_slice.ensures.value
          c.in-Ok-send.ensures,
    )

pub returns : goal.returns
returns g c =
    let claim = g.A.Analysis.claim c.args.analysis.now in
    let grown = c.receive.new.inbox.items in
    let content = c.in-Ok.content in
    let answer = c.in-Ok-handle.handled.answer.items in (
      answer,
      c.in-Ok-handle.handled.exit,
      advances_by claim
          (moment_of g.R.Read.remaining g.R.Source.has_failed g.W.Write.contents g.W.Sink.has_failed c.args.reader.now c.args.writer.now)
          (moment_of g.R.Read.remaining g.R.Source.has_failed g.W.Write.contents g.W.Sink.has_failed c.receive.new.reader c.send.new.writer)
          c.args.server.now c.handle.new.server c.args.inbox.now.items grown c.handle.new.inbox.items answer
          c.in-Ok-handle.handled.exit content
          c.in-Ok.ensures.grows c.in-Ok.ensures.works c.in-Ok.ensures.message c.in-Ok-handle.ensures.rest
          c.in-Ok-handle.ensures.handles,
      subst (λ (t : List ℕ). Broke (g.W.Write.contents c.args.writer.now) (g.W.Write.contents c.send.new.writer)
          (g.W.Sink.has_failed c.send.new.writer) t) c.as_slice.ensures.value
          c.in-Err-send.ensures.1,
    )
