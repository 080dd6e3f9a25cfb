pub mod Kept
pub mod Ordinary
pub mod Plain
