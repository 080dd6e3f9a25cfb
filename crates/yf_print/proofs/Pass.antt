-- the printer, step by step
pub mod LookLemmas
pub mod AwaitedLemmas
pub mod DraftLemmas
pub mod HeldBlocks
pub mod HeldColumns
pub mod HeldLists
pub mod KnownLines
pub mod PrintLemmas
pub mod WhiteLemmas
pub mod LeafTrailLemmas
pub mod TrailLemmas
