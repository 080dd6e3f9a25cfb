-- `rewrite`: the bytes that were read, and the names of the two files
pub mod RewriteLemmas
-- `MemoryFiles`: its logs and its calls
pub mod LogLemmas
pub mod MemoryLemmas
pub mod LinkLemmas
