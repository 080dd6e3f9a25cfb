use Rattle.std.proofs.Common.{List, ℕ, refl, subst, sym}
use Rattle.std.proofs.lemmas.Result.{IfOk-weaker}
use Rattle.std.specs.Prelude.{option_map}
use Rattle.yf_rules.specs.Runs.ByteStream.{stream_of}
use Rattle.yf_rules.specs.Runs.Run.{Keeps}
use Rattle.yf_program.proofs.ReportLemmas.{found_over, refused_over}
use Rattle.yf_program.proofs.report_texts.give_text.Goals as goal

pub returns-in-Ok-clause-gives : goal.returns-in-Ok-clause-gives
returns-in-Ok-clause-gives g c =
    let stream = stream_of g.E.Write.contents g.E.Sink.has_failed c.args.error_stream.now in
    IfOk-weaker c.add_found.result _ _
    (λ status d. found_over c.args.task.now (option_map (λ n. n.now) c.args.name) status
    (stream_of g.R.Read.remaining g.R.Source.has_failed c.args.reader.now)
    (stream_of g.R.Read.remaining g.R.Source.has_failed c.read_found.new.reader) stream stream
    c.args.files.now.items c.add_found.new.files.items c.in-Ok.checked c.in-Ok.ensures.problems c.in-Ok.ensures.reader
    (record { contents = refl; same = refl }) d)
    c.add_found.ensures

pub returns-clause-gives : goal.returns-clause-gives
returns-clause-gives g c =
    let keeps = subst (λ (b : List ℕ). Keeps (g.R.Read.remaining c.args.reader.now) b c.in-Err.fault) (sym c.as_slice-bytes.ensures.value) c.in-Err.ensures.bytes in
    IfOk-weaker c.give_refusal.result _ _
    (λ status d. refused_over c.args.task.now (option_map (λ n. n.now) c.args.name) status
    (stream_of g.R.Read.remaining g.R.Source.has_failed c.args.reader.now)
    (stream_of g.R.Read.remaining g.R.Source.has_failed c.read_found.new.reader)
    (stream_of g.E.Write.contents g.E.Sink.has_failed c.args.error_stream.now)
    (stream_of g.E.Write.contents g.E.Sink.has_failed c.give_refusal.new.error_stream)
    c.args.files.now.items c.give_refusal.new.files.items c.in-Err.fault c.as_slice-bytes.result.now
    c.in-Err.ensures.refusals keeps d.1 d.0)
    c.give_refusal.ensures.gives
