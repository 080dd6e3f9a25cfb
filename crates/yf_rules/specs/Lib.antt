pub mod AllRules
pub mod Asked
pub mod Check
pub mod Findings
pub mod Headline
pub mod NothingToFix
pub mod Quoted
pub mod TreeSets
pub mod UniqueFindings
pub mod CheckAfterFormat
-- the inputs and the results of the runs
pub mod Runs
