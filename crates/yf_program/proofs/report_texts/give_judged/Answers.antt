use Rattle.std.proofs.Common.{List, ℕ, subst, sym, true}
use Rattle.std.proofs.lemmas.Result.{IfOk-weaker}
use Rattle.std.specs.Prelude.{option_map}
use Rattle.yf_guarded.specs.Judged.{GivesJudged}
use Rattle.yf_rules.specs.Runs.ByteStream.{stream_of}
use Rattle.yf_rules.specs.Runs.Run.{Keeps}
use Rattle.yf_program.proofs.ReportLemmas.{judged_over, refused_judged}
use Rattle.yf_program.proofs.report_texts.give_judged.Goals as goal

pub returns-in-Ok-clause-gives : goal.returns-in-Ok-clause-gives
returns-in-Ok-clause-gives g c =
    let known = g.R.Read.remaining c.args.reader.now in
    let judged = subst (λ (t : List ℕ). GivesJudged true known t c.in-Ok.verdict) (sym c.as_slice-bytes.ensures.value) c.in-Ok.ensures.judged in
    IfOk-weaker c.give_as_judged.result _ _
    (λ status d. judged_over c.args.task.now (option_map (λ n. n.now) c.args.name) status
    (stream_of g.R.Read.remaining g.R.Source.has_failed c.args.reader.now)
    (stream_of g.R.Read.remaining g.R.Source.has_failed c.read_judged.new.reader)
    (stream_of g.E.Write.contents g.E.Sink.has_failed c.args.error_stream.now)
    (stream_of g.E.Write.contents g.E.Sink.has_failed c.give_as_judged.new.error_stream)
    c.args.files.now.items c.give_as_judged.new.files.items c.as_slice-bytes.result.now c.in-Ok.verdict
    judged c.in-Ok.ensures.reader d)
    c.give_as_judged.ensures.gives

pub returns-clause-gives : goal.returns-clause-gives
returns-clause-gives g c =
    let keeps = subst (λ (b : List ℕ). Keeps (g.R.Read.remaining c.args.reader.now) b c.in-Err.fault) (sym c.as_slice-bytes-in-Err.ensures.value) c.in-Err.ensures.bytes in
    IfOk-weaker c.give_refusal.result _ _
    (λ status d. refused_judged c.args.task.now (option_map (λ n. n.now) c.args.name) status
    (stream_of g.R.Read.remaining g.R.Source.has_failed c.args.reader.now)
    (stream_of g.R.Read.remaining g.R.Source.has_failed c.read_judged.new.reader)
    (stream_of g.E.Write.contents g.E.Sink.has_failed c.args.error_stream.now)
    (stream_of g.E.Write.contents g.E.Sink.has_failed c.give_refusal.new.error_stream)
    c.args.files.now.items c.give_refusal.new.files.items c.in-Err.fault c.as_slice-bytes-in-Err.result.now
    c.in-Err.ensures.refusals keeps d.1 d.0)
    c.give_refusal.ensures.gives
