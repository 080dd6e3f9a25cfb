use Rattle.std.proofs.Common.{sym, ◌∙◌}
use Rattle.yf_block.specs.PropertiesAnswers.{property_after}
use Rattle.yf_block.proofs.properties.place_after.Goals as goal

pub returns-then-is_property_at-clause-reads : goal.returns-then-is_property_at-clause-reads
returns-then-is_property_at-clause-reads c =
    let s = c.skip_whites-place.ensures in property_after s.whites.1 s.all (sym c.is_property_at.ensures ∙ c.if-is_property_at.true)
