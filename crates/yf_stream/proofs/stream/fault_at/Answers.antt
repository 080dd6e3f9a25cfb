use Rattle.std.proofs.Common.{subst}
use Rattle.yf_lines.specs.FaultPlaces.{IsPlaceOf}
use Rattle.yf_stream.specs.NotedLists.{breached, for_memory, no_stream, too_deep}
use Rattle.yf_stream.proofs.stream.fault_at.Goals as goal

pub returns-in_default : goal.returns-in_default
returns-in_default c = for_memory

pub returns-in-Syntax : goal.returns-in-Syntax
returns-in-Syntax c =
    rw c.in-Syntax.is
    (no_stream c.diagnose-told.result c.diagnose-told.ensures
    (subst (λ z. IsPlaceOf z c.diagnose-told.result.at c.place.result) c.in-Ok.ensures.text c.place.ensures.place))

pub returns-in-TooDeep : goal.returns-in-TooDeep
returns-in-TooDeep c =
    rw c.in-TooDeep.is (too_deep (subst (λ z. IsPlaceOf z c.in-TooDeep.offset c.place-in-TooDeep.result) c.in-Ok.ensures.text c.place-in-TooDeep.ensures.place))

pub returns : goal.returns
returns c = rw c.in-Breach.is (breached (subst (λ z. IsPlaceOf z c.in-Breach.breach.offset c.place-in-Breach.result) c.in-Ok.ensures.text c.place-in-Breach.ensures.place) c.fault_of.ensures)
