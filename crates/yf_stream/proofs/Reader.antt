-- the contract of `read_stream` (`StreamReader`): a stream step by step, from directives to the last document
pub mod DirectiveLaws
pub mod DirectiveLineLemmas
pub mod DirectiveWords
pub mod MarkerLemmas
pub mod PrefixLemmas
pub mod StreamSteps
pub mod PathLemmas
pub mod PathsThrough
pub mod BareStarts
pub mod NodePast
pub mod NodeSteps
pub mod StreamUpto
pub mod NextSteps
pub mod DocumentAnswers
pub mod ReadingMade
pub mod MadeReadings
pub mod DerivedFaults
