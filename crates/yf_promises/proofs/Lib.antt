-- the further rules, over the documents that the tokens state
pub mod FitLemmas
-- events, content and comments
pub mod SaidLemmas
-- which documents `...` ends
pub mod Stops
pub mod EndLemmas
-- each rule finds one set of offsets
pub mod Candidates
pub mod ListedLemmas
-- the promises
pub mod PromisesHold
