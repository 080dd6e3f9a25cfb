use Rattle.std.proofs.Common.{refl}
use Rattle.yf_program.proofs.judged.tell_left.Goals as goal

pub returns : goal.returns
returns g c =
    rw (← c.streams.view_is) (c.report_left.ensures.status, record { contents = refl; same = refl }, c.report_left.ensures.line)
