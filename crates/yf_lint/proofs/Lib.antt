-- sets of names
pub mod NameLemmas
-- one step of the passes over the events
pub mod NamePasses
-- keys and items without a value
pub mod EmptyRuns
pub mod EmptySteps
-- ambiguous plain scalars
pub mod PlainRuns
pub mod PlainSteps
