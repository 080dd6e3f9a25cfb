use Rattle.std.proofs.Common.{take}
use Rattle.yf_rule_sets.specs.RuleSets.Places.{IsCursor, PlacesOf}
use Rattle.yf_rule_sets.proofs.facts.places.known_positions.Given as goal

abbrev pub invariant-loop-offset : goal.invariant-loop-offset
invariant-loop-offset l = record {
  places : PlacesOf l.src.text (take l.offset-index l.offsets) l.places.items;
  cursor : IsCursor l.src.text l.src.lines l.cursor;
  back : IsCursor l.src.text l.src.lines l.back;
}
