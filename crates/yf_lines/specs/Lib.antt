pub mod Basic
pub mod CoreSchema
pub mod FaultPlaces
pub mod Lines
pub mod Output
pub mod Steady
pub mod Text
pub mod Fold
pub mod Watched
pub mod LineText
pub mod Rest
pub mod Rows
pub mod Feeds
-- how a text from elsewhere is shown in a message
pub mod Shown
