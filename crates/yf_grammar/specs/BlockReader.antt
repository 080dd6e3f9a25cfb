-- the recursive reader of block nodes, the last halts of broken nodes, and the rest of a task for a reader with a stack
pub mod BlockParser
pub mod Halts
pub mod BlockAwaits
pub mod BlockStack
pub mod BlockStates
pub mod BlockSteps
