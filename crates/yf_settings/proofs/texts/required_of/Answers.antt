use Rattle.std.proofs.Common.{refl, sym}
use Rattle.yf_settings.specs.Texts.{no_string, no_versions}
use Rattle.yf_settings.proofs.texts.required_of.Goals as goal

pub returns-in-None-2 : goal.returns-in-None-2
returns-in-None-2 c =
    no_versions refl (sym c.in-Some.ensures) (rw c.in-None-2.is at c.in_ok-versions-in-Some.ensures)

pub returns-in-None : goal.returns-in-None
returns-in-None c = no_string refl (sym c.in-None.ensures)
