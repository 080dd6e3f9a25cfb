use Rattle.yf_program.specs.Answer.{ScopedInput, host_in, name_of}
use Rattle.yf_host.specs.World.{world_in}
use Rattle.yf_program.proofs.AnswerLemmas.{named_done}
use Rattle.yf_program.proofs.each.do_named.Goals as goal

pub returns-clause-does : goal.returns-clause-does
returns-clause-does g c =
    named_done (ScopedInput (host_in g.I.Inputs.claim g.S.FileSystem.tells g.S.FileSystem.state g.S.Links.leads c.args.sources.now) c.args.scope.now c.args.task.now c.args.input.now)
    (world_in g.I.Inputs.opened c.args.sources.now c.args.streams.now) (world_in g.I.Inputs.opened c.do_scoped-status.new.sources c.tell_memory.new.streams)
    (name_of c.args.scope.now.stdin_name c.args.input.now) c.name_of.result.now c.do_scoped-status.result c.tell_memory.result c.in_memory-memory.result _ c.in_memory-memory.ensures c.name_of.ensures
    c.do_scoped-status.ensures.does c.tell_memory.ensures
