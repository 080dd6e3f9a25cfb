use Rattle.yf_excludes.specs.Spans.{from_here}
use Rattle.yf_excludes.proofs.SpansLemmas.{run_forth, run_back}
use Rattle.yf_excludes.proofs.spans.spans.Goals as goal

pub returns-in-Run : goal.returns-in-Run
returns-in-Run g c = (
  λ t. run_back c.in-Run.ensures c.after_index.ensures c.from_index.ensures (c.is_within.ensures.0 t),
  λ s. c.is_within.ensures.1 (run_forth c.in-Run.ensures c.after_index.ensures c.from_index.ensures (from_here s)),
)
