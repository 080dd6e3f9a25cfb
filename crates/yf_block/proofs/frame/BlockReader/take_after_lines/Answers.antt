use Rattle.yf_block.proofs.Ends.BelongingLemmas.{held_ahead}
use Rattle.yf_block.proofs.frame.BlockReader.take_after_lines.Goals as goal

pub take_text-requires-clause-belonging : goal.take_text-requires-clause-belonging
take_text-requires-clause-belonging c = λ a t l. c.facts_with_outer-facts.ensures.belonging a (held_ahead t c.requires.outer) l
