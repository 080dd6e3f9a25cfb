pub mod Settings
pub mod Texts
pub mod FileSettings
pub mod Page
