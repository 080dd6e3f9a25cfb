-- the least offset of two lists
pub mod LeastLemmas
-- the facts that an open mapping keeps, against the definition on trees
pub mod PairLemmas
-- the faults that the pass finds in trees
pub mod TreeRuns
-- one step of the pass
pub mod StepLemmas
-- bytes and line breaks
pub mod ByteLemmas
