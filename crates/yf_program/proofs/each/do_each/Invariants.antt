-- The task was done with the first input and with all inputs up to the index. What was known of the inputs is still
-- known.
use Rattle.std.proofs.Common.{◌∷◌, take}
use Rattle.yf_program.specs.Answer.{DoesEach, ScopedInput, host_in}
use Rattle.yf_host.specs.World.{StillKnown, world_in}
use Rattle.yf_program.proofs.each.do_each.Given as goal

abbrev pub invariant-loop-input : goal.invariant-loop-input
invariant-loop-input g l = record {
  done : DoesEach l.scope.stdin_name (ScopedInput (host_in g.I.Inputs.claim g.S.FileSystem.tells g.S.FileSystem.state g.S.Links.leads l.fn.sources) l.scope l.task)
      (world_in g.I.Inputs.opened l.fn.sources l.fn.streams) (l.inputs.first ∷ take l.input-index l.inputs.rest.items) l.greatest (world_in g.I.Inputs.opened l.sources l.streams);
  same : StillKnown (g.I.Inputs.claim l.fn.sources.inputs) (g.I.Inputs.claim l.sources.inputs);
}
