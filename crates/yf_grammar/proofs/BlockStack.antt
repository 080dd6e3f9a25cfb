-- a block node that is read with a stack (`BlockTied` of yf_block)
pub mod BlockAwaitItems
pub mod BlockDedents
pub mod BlockResume
pub mod BlockStackSteps
pub mod BlockNodeSteps
pub mod BlockEntryBegins
pub mod BlockStepEntries
pub mod BlockStepNodes
