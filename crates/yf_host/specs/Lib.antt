-- the world that the program works on, and how a run ends
pub mod World
pub mod Ends
-- the lines that are written
pub mod Report
pub mod LeftAlone
pub mod Named
pub mod Memory
-- files that are rewritten
pub mod Rewriting
-- inputs in memory
pub mod MemoryInputs
