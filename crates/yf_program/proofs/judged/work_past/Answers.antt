use Rattle.yf_rules.specs.Runs.ByteStream.{stream_of}
use Rattle.yf_program.proofs.ShownLemmas.{work_shown}
use Rattle.yf_program.proofs.judged.work_past.Goals as goal

pub returns-in-Some : goal.returns-in-Some
returns-in-Some g c =
    rw (← c.name_of-name.ensures)
    (work_shown c.args.task.now c.name_of-name.result.now c.show_past.result (stream_of g.R.Read.remaining g.R.Source.has_failed c.args.reader.now)
    (stream_of g.R.Read.remaining g.R.Source.has_failed c.show_past.new.reader) c.args.streams.now c.show_past.new.streams c.args.task.now.work
    c.args.input.now c.in-Some.show c.in-Some.ensures c.show_past.ensures)
