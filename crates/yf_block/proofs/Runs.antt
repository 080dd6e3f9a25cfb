-- a run of the reader from step to step: the number of open collections, the work left, and the results
pub mod CountedSteps
pub mod MovedLemmas
pub mod WorkedLemmas
pub mod RunLemmas
pub mod NodesGiven
