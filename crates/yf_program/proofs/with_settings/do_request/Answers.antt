use Rattle.std.proofs.Common.{◌≡◌, Bool, inl, inr, refl, rules, subst, sym, true, false}
use Rattle.std.specs.Prelude.{MatchBool}
use Rattle.yf_program.specs.Answer.{host_in}
use Rattle.yf_program.specs.Run.{SettingsShown, SettingsTaken}
use Rattle.yf_host.specs.World.{world_in}
use Rattle.yf_program.proofs.with_settings.do_request.Goals as goal

pub returns-then-shows_settings : goal.returns-then-shows_settings
returns-then-shows_settings g c = inr (c.in-Ok.in_force, c.in-Ok.ensures, rw c.if-shows_settings.true c.show_in_force.ensures)

pub returns-else-shows_settings : goal.returns-else-shows_settings
returns-else-shows_settings g c = inr (c.in-Ok.in_force, c.in-Ok.ensures, rw c.if-shows_settings.false c.do_in_force.ensures)

pub returns-in-Err : goal.returns-in-Err
returns-in-Err g c =
    inl (c.in-Err.unfound, c.in-Err.ensures, (refl, (λ noted. refl), c.stop_unfound.ensures.output), c.stop_unfound.ensures.errors)
