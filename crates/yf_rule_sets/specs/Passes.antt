-- the states of passes over a reading, for the clauses of private functions
pub mod LineFlags
pub mod FarthestEnds
pub mod BlockLines
pub mod ScalarStarts
pub mod QuietEvents
pub mod BlankNotes
pub mod KeyPass
pub mod OuterFlow
pub mod ScalarLines
pub mod NodeColumns
pub mod NodeContexts
pub mod Entries
pub mod ContextPass
pub mod IndentFaults
pub mod MarkedKeys
pub mod BlockKeys
