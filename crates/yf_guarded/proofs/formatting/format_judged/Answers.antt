use Rattle.std.proofs.Common.{refl}
use Rattle.yf_guarded.specs.Judged.Guards.{by_reading}
use Rattle.yf_guarded.proofs.formatting.format_judged.Goals as goal

pub returns-in-Ok-clause-formatted : goal.returns-in-Ok-clause-formatted
returns-in-Ok-clause-formatted c =
    (by_reading c.requires.not_vault refl (rw c.in-Ok-None.field-0-is at c.in-Ok-None.ensures.found), c.in-Ok.ensures.headline)

pub returns-in-Ok-Some-clause-formatted : goal.returns-in-Ok-Some-clause-formatted
returns-in-Ok-Some-clause-formatted c =
    by_reading c.requires.not_vault refl (rw c.in-Ok-Some.field-0-is at c.in-Ok-Some.ensures.found)
