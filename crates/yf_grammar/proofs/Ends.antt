-- the base of all others: ends, gaps, and the text after nodes
pub mod Forward
pub mod Irrefutable
pub mod Ways
pub mod BlankRuns
pub mod GapLemmas
pub mod SinceKnown
pub mod SinceWalk
pub mod WiderLemmas
pub mod Parts
pub mod NodeExits
