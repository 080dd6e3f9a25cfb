-- the normal form of a reading, and whether the first `---` is left out
pub mod Normal
pub mod Forms
pub mod Measures
pub mod Packed
pub mod Textual
pub mod Restyled
pub mod BareStart
