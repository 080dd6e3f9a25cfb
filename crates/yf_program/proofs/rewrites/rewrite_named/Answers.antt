use Rattle.std.proofs.Common.{refl}
use Rattle.yf_command_line.specs.declared.command.Input.TheVariants.{File}
use Rattle.yf_program.specs.Answer.{ScopedRewrite, host_in}
use Rattle.yf_host.specs.Rewriting.{claim_of}
use Rattle.yf_host.specs.World.{world_in}
use Rattle.yf_program.proofs.AnswerLemmas.{named_done}
use Rattle.yf_program.proofs.rewrites.rewrite_named.Goals as goal

pub returns-clause-does : goal.returns-clause-does
returns-clause-does g c =
    named_done (ScopedRewrite (host_in g.I.Inputs.claim g.S.FileSystem.tells g.S.FileSystem.state g.S.Links.leads c.args.sources.now) c.args.scope.now c.args.explain (claim_of c.args.new_text.now) (File c.args.name.now))
    (world_in g.I.Inputs.opened c.args.sources.now c.args.streams.now) (world_in g.I.Inputs.opened c.rewrite_scoped-status.new.sources c.tell_memory.new.streams)
    c.args.name.now c.args.name.now c.rewrite_scoped-status.result c.tell_memory.result c.in_memory-memory.result _ c.in_memory-memory.ensures refl
    c.rewrite_scoped-status.ensures.does c.tell_memory.ensures
