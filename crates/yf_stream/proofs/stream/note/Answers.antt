use Rattle.yf_stream.proofs.Offsets.BreachPlaces.{tag_for_each}
use Rattle.yf_stream.proofs.stream.note.Goals as goal

pub returns-clause-refusal : goal.returns-clause-refusal
returns-clause-refusal c = record { tags = tag_for_each (c.in_ok-resolve.ensures.tags c.in-None.is); notes = c.in_ok-on_leaf_lines.ensures.count }
