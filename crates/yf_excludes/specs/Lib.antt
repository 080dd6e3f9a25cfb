-- Patterns of excluded files: how a text is read as a pattern, and which paths the patterns exclude.

pub mod Signs
pub mod Spans
pub mod Atoms
pub mod Paths
pub mod Excluded
pub mod Classes
pub mod Segments
pub mod Patterns
pub mod Names
pub mod Located
pub mod OneMeaning
