-- the notes on blank lines in a stream that is read step by step
pub mod CommentNotes
pub mod FloorWalk
pub mod ScalarNotes
pub mod NodeNotes
pub mod BlockNotes
pub mod DerivedNotes
pub mod FloorsBlank
pub mod CommentsUpto
pub mod CommentsSteps
pub mod PartsUpto
pub mod PartsSteps
pub mod FloorsAt
pub mod FloorLemmas
pub mod NotingLemmas
