use Rattle.std.proofs.Common.{List, Some, ℕ, refl, subst, sym}
use Rattle.std.proofs.lemmas.Result.{IfOk-weaker}
use Rattle.std.specs.Prelude.{option_map}
use Rattle.yf_rules.specs.Runs.ByteStream.{stream_of}
use Rattle.yf_rules.specs.Runs.Run.{Keeps}
use Rattle.yf_program.proofs.ReportLemmas.{no_data_given, no_data_refused}
use Rattle.yf_program.proofs.report_texts.give_no_data.Goals as goal

pub returns-in-Ok-clause-gives : goal.returns-in-Ok-clause-gives
returns-in-Ok-clause-gives g c =
    let stream = stream_of g.E.Write.contents g.E.Sink.has_failed c.args.error_stream.now in
    IfOk-weaker c.add_guarded.result _ _
    (λ status d. no_data_given c.args.task.now (option_map (λ n. n.now) c.args.name) status stream stream
    c.args.files.now.items c.add_guarded.new.files.items c.args.bytes.now c.args.finding.now
    c.in-Ok.checked d.0 c.in-Ok.ensures.problems d.1 (record { contents = refl; same = refl }) d.2)
    c.add_guarded.ensures

pub returns-clause-gives : goal.returns-clause-gives
returns-clause-gives g c =
    let keeps = subst (λ (b : List ℕ). Keeps (Some c.args.bytes.now) b c.in-Err.fault) (sym c.as_slice-read.ensures.value) c.in-Err.ensures.bytes in
    IfOk-weaker c.give_refusal.result _ _
    (λ status d. no_data_refused c.args.task.now (option_map (λ n. n.now) c.args.name) status
    (stream_of g.E.Write.contents g.E.Sink.has_failed c.args.error_stream.now)
    (stream_of g.E.Write.contents g.E.Sink.has_failed c.give_refusal.new.error_stream)
    c.args.files.now.items c.give_refusal.new.files.items c.args.bytes.now c.args.finding.now
    c.read_beside.new.reader.rest.now c.in-Err.fault c.as_slice-read.result.now
    c.in-Err.ensures.refusals keeps d.1 d.0)
    c.give_refusal.ensures.gives
