-- The search for the nearest settings file.

pub mod Nearest
pub mod OneDiscovery
