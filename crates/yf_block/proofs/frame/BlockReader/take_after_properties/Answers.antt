use Rattle.yf_block.proofs.Ends.BelongingLemmas.{belonging_none}
use Rattle.yf_block.proofs.frame.BlockReader.take_after_properties.Goals as goal

pub take_text-requires-clause-belonging : goal.take_text-requires-clause-belonging
take_text-requires-clause-belonging c = λ a t l.
    rw c.facts_alone-facts.ensures.belonging (belonging_none c.args.scope.text.now c.args.after.now.node_start.at c.args.after.now.at c.args.after.now.inner c.args.self.now.progress.wanted.entry t c.in-None.is c.facts_alone-facts.ensures.lead)
