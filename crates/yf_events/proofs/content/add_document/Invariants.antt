use Rattle.std.proofs.Common.{◌≡◌, ◌++◌, map, drop}
use Rattle.std.specs.List.{flat_map}
use Rattle.yf_events.specs.Content.{before_value, items_of_directive, items_of_document}
use Rattle.yf_events.proofs.content.add_document.Given as goal

abbrev pub invariant-loop-directive : goal.invariant-loop-directive
invariant-loop-directive l =
    map before_value l.items.items ++ flat_map items_of_directive (drop l.directive-index l.directive-items)
    ≡ map before_value l.fn.items.items ++ items_of_document l.document
