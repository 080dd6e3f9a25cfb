pub mod Script
pub mod Texts
pub mod Fates
pub mod Unified
pub mod Walk
pub mod Diff
pub mod Applied
