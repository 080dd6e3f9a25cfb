-- the end of a line
pub mod LineLemmas
-- the parts that the pass finds in trees
pub mod OutlineRuns
-- one step of the pass
pub mod OutlineSteps
