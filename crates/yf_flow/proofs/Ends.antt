-- lemmas that all functions use: ends, looks ahead, open collections and notes
pub mod Forward
pub mod LookLemmas
pub mod LeafLemmas
pub mod KeyLineLemmas
pub mod MachineLemmas
pub mod Frames
pub mod EntryNotes
pub mod NotedLemmas
pub mod NotedFloor
pub mod OtherContexts
