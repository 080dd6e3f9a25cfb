use Rattle.std.proofs.Common.{inl, inr, refl}
use Rattle.yf_rules.specs.Runs.ByteStream.{stream_of}
use Rattle.yf_program.proofs.reports.report_inputs.Goals as goal

pub returns-in-Ok : goal.returns-in-Ok
returns-in-Ok g c =
    let errors = stream_of g.E.Write.contents g.E.Sink.has_failed c.give_all.new.error_stream in
    rw (← c.streams.view_is) (errors, refl, inl (c.in-Ok.status, c.give_all.new.files.items, rw c.new-files.ensures.items at c.in-Ok.ensures.gives, c.write_report.ensures))

pub returns-in-Err : goal.returns-in-Err
returns-in-Err g c =
    let errors = stream_of g.E.Write.contents g.E.Sink.has_failed c.give_all.new.error_stream in
    rw (← c.streams.view_is) (errors, refl, inr (c.give_all.new.files.items, rw c.new-files.ensures.items at c.in-Err.ensures.gives_up, record { contents = refl; same = refl }, (c.report.ensures.status, c.report.ensures.line)))
