-- the passes, event by event
pub mod TrailPass
pub mod PrintWork
pub mod PrintPass
pub mod Drafts
pub mod HeldBlocks
pub mod KnownLines
pub mod Pages
pub mod PrinterState
