-- `least_wrong_key`
pub mod SettingsLemmas
-- `settings_from_toml`
pub mod FileSettingsLemmas
-- `patterns_at`, `required_at`
pub mod TextsLemmas
-- `settings_page`
pub mod PageLemmas
