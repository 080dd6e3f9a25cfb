-- what the program does, from its arguments to its exit status
pub mod Forms
pub mod BaselineFile
pub mod Reports
pub mod Settings
pub mod Guarded
pub mod Answer
pub mod SettingsFile
pub mod Handling
pub mod Run
-- what the editor server does
pub mod Server
