-- the commands and their options
pub mod Options
-- the request that the words ask for, and when they are refused
pub mod Requests
pub mod Rows
pub mod FmtFormats
pub mod Without
pub mod Formats
pub mod Printing
pub mod Lines
