use Rattle.std.proofs.Common.{◌∙◌}
use Rattle.yf_block.proofs.Ends.PropertiesLemmas.{property_and, property_or}
use Rattle.yf_block.proofs.properties.is_property_at.Goals as goal

pub returns-then-is_char_at : goal.returns-then-is_char_at
returns-then-is_char_at c = property_and _ c.if-is_char_at.ensures.cases.char

pub returns : goal.returns
returns c = c.is_char_at-2.ensures.value ∙ property_or _ c.if-is_char_at.ensures.cases
