-- `nearest_settings`
pub mod NearestLemmas
-- `nearest_is_one`
pub mod OneDiscoveryLemmas
