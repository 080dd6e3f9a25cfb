use Rattle.std.proofs.Common.{inr}
use Rattle.yf_program.specs.Answer.{host_in}
use Rattle.yf_host.specs.World.{world_in}
use Rattle.yf_program.proofs.AnswerLemmas.{does_with_before, later_on}
use Rattle.yf_program.proofs.with_settings.do_in_force.Goals as goal

pub returns-in-Ok : goal.returns-in-Ok
returns-in-Ok g c = inr (
  c.in-Ok.settings,
  g.I.Inputs.opened c.settings_set.new.inputs,
  c.in-Ok.ensures.set,
  c.in-Ok.ensures.opened,
  does_with_before (host_in g.I.Inputs.claim g.S.FileSystem.tells g.S.FileSystem.state g.S.Links.leads c.args.sources.now) (host_in g.I.Inputs.claim g.S.FileSystem.tells g.S.FileSystem.state g.S.Links.leads (record { inputs = c.settings_set.new.inputs; files = c.args.sources.now.files })) c.in-Ok.ensures.same (later_on g.I.Inputs.claim c.args.sources.now.inputs c.settings_set.new.inputs c.in-Ok.ensures.same) (λ first last name style result d. d)
      c.args.in_force c.in-Ok.settings c.args.flags c.args.command c.do_with.result
      (world_in g.I.Inputs.opened (record { inputs = c.settings_set.new.inputs; files = c.args.sources.now.files }) c.args.streams.now)
      (world_in g.I.Inputs.opened c.do_with.new.sources c.do_with.new.streams) c.do_with.ensures,
)
