-- The state of a file system, what its calls do, and what the rewriting of a file promises at any moment.

pub mod Tree
pub mod Calls
pub mod Aside
pub mod Replaced
pub mod Rewritten
pub mod Memory
pub mod MemoryLaws
pub mod Links
