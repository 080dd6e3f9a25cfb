use Rattle.std.proofs.Common.{arith}
use Rattle.yf_events.proofs.PackedRows.{scalar_made}
use Rattle.yf_events.proofs.packing.scalar_row.Goals as goal

pub returns : goal.returns
returns c = λ more. record {
  fits = omega arith;
  is = scalar_made _ _ _ _ _ _ _ _ c.in_ok-start.ensures c.in_ok-end.ensures c.in_ok-beginning.ensures;
}
