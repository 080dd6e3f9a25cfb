-- the laws of the life cycle
pub mod LifecycleLemmas
-- the documents of a list by their URIs
pub mod DocumentLemmas
-- the texts of all documents that are lost
pub mod LossLemmas
-- the changes of an array
pub mod ParameterLemmas
-- a step of a server, and a run of steps
pub mod StepLemmas
-- responses to requests
pub mod RespondLemmas
-- the folds of a text, by a table of its lines
pub mod FoldLemmas
-- the selection ranges of positions
pub mod SelectionLemmas
