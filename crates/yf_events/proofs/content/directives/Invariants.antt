use Rattle.std.proofs.Common.{◌≡◌, ◌++◌, map, drop}
use Rattle.std.specs.List.{flat_map}
use Rattle.yf_events.specs.Content.{before_value, items_of_document}
use Rattle.yf_events.proofs.content.directives.Given as goal

abbrev pub invariant-loop-document : goal.invariant-loop-document
invariant-loop-document l =
    map before_value l.items.items ++ flat_map items_of_document (drop l.document-index l.documents) ≡ flat_map items_of_document l.documents
