-- The first file and all files up to the index were rewritten, and the inputs are as they were.
use Rattle.std.proofs.Common.{◌≡◌, ◌∷◌, take}
use Rattle.std.specs.Prelude.{map}
use Rattle.yf_command_line.specs.declared.command.Input.TheVariants.{File}
use Rattle.yf_program.specs.Answer.{DoesEach, ScopedRewrite, host_in}
use Rattle.yf_host.specs.Rewriting.{claim_of}
use Rattle.yf_host.specs.World.{world_in}
use Rattle.yf_program.proofs.rewrites.rewrite_each.Given as goal

abbrev pub invariant-loop-name : goal.invariant-loop-name
invariant-loop-name g l = record {
  done : DoesEach l.scope.stdin_name (ScopedRewrite (host_in g.I.Inputs.claim g.S.FileSystem.tells g.S.FileSystem.state g.S.Links.leads l.fn.sources) l.scope l.explain (claim_of l.new_text))
      (world_in g.I.Inputs.opened l.fn.sources l.fn.streams) (File l.files.first ∷ take l.name-index (map (λ name. File name) l.files.rest.items)) l.greatest
      (world_in g.I.Inputs.opened l.sources l.streams);
  same : l.sources.inputs ≡ l.fn.sources.inputs;
}
