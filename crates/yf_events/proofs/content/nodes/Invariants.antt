use Rattle.std.proofs.Common.{◌≡◌, ◌++◌, map}
use Rattle.yf_events.specs.Content.{item_value, nodes_of}
use Rattle.yf_events.proofs.ContentRuns.{nodes_from}
use Rattle.yf_events.proofs.content.nodes.Given as goal

abbrev pub invariant-loop-i : goal.invariant-loop-i
invariant-loop-i l = map item_value l.items.items ++ nodes_from l.reading l.i ≡ nodes_of l.reading
