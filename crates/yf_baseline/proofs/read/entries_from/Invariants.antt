-- The entries so far, and those of the remaining values, are all entries.
use Rattle.std.proofs.Common.{◌≡◌, ◌++◌, drop, option_map}
use Rattle.json.specs.Value.{items_view}
use Rattle.yf_baseline.specs.Baselines.{entries_from}
use Rattle.yf_baseline.proofs.read.entries_from.Given as goal

abbrev pub invariant-loop-item : goal.invariant-loop-item
invariant-loop-item l =
    option_map (λ es. l.entries.items ++ es) (entries_from (items_view (drop l.item-index l.items)))
    ≡ entries_from (items_view l.items)
