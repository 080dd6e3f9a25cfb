pub mod Units
pub mod Lines
pub mod Offsets
pub mod Changes
pub mod Edits
pub mod Laws
