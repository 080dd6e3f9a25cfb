use Rattle.yf_rule_sets.specs.RuleSets.Columns.{ColumnsTo}
use Rattle.yf_rule_sets.specs.RuleSets.Places.{IsCursor}
use Rattle.yf_rule_sets.proofs.facts.places.columns_of.Given as goal

abbrev pub invariant-loop-k : goal.invariant-loop-k
invariant-loop-k l = record {
  cursor : IsCursor l.src.text l.src.lines l.cursor;
  back : IsCursor l.src.text l.src.lines l.back;
  columns : ColumnsTo l.src.text l.fn.offsets.items l.offsets.items l.k;
}
