use Rattle.std.proofs.Common.{subst}
use Rattle.yf_rules.specs.Runs.Compare.DiffersFirst.{differs_first}
use Rattle.yf_lines.specs.FaultPlaces.{IsPlaceOf}
use Rattle.yf_rules.proofs.compare.difference.Goals as goal

pub returns : goal.returns
returns c = differs_first c.first_difference-at.ensures (subst (λ t. IsPlaceOf t c.first_difference-at.result c.place.result) c.in_ok-src.ensures.text c.place.ensures.place)
