use Rattle.std.proofs.Common.{sym, ◌∙◌}
use Rattle.yf_block.proofs.Ends.PropertiesLemmas.{no_properties}
use Rattle.yf_block.proofs.frame.BlockReader.take_key.Goals as goal

pub take_key_after-requires-clause-reads : goal.take_key_after-requires-clause-reads
take_key_after-requires-clause-reads c = no_properties (sym c.if-is_property_at.false ∙ c.is_property_at.ensures)
