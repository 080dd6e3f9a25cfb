-- the hunks between a text and its formatting, and the text with some of them applied
pub mod Hunks
-- the requested lines, and the hunks that touch them
pub mod Asked
-- the hunks that each try applies
pub mod Tries
pub mod Attempts
-- the contract of a part
pub mod PartKept
-- how a text with some lines formatted is shown, and the run that shows it
pub mod Shown
pub mod PartRun
