use Rattle.std.proofs.Common.{inr, refl}
use Rattle.yf_program.proofs.SettingsShownLemmas.{file_keeps}
use Rattle.yf_program.proofs.with_settings.show_in_force.Goals as goal

pub returns-in-Ok : goal.returns-in-Ok
returns-in-Ok g c = (
  refl,
  c.in-Ok.ensures.opened,
  inr (
    c.in-Ok.settings,
    c.in-Ok.ensures.set,
    c.show_settings.ensures (file_keeps (g.I.Inputs.claim c.args.sources.now.inputs) c.args.in_force.now.config c.in-Ok.settings c.in-Ok.ensures.set),
  ),
)
