use Rattle.yf_rule_sets.proofs.Texts.ColumnLemmas.{column_there}
use Rattle.yf_rule_sets.proofs.facts.places.column_after.Goals as goal

pub returns-then-is_char_boundary-clause-column : goal.returns-then-is_char_boundary-clause-column
returns-then-is_char_boundary-clause-column c = λ b.
    column_there c.args.src.now.text c.args.offset c.place_from-located.result.place.line c.place_from-located.result.place.column c.saturating_sub.result
    c.place_from-located.ensures.place c.saturating_sub.ensures
