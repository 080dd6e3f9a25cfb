-- lines by their numbers
pub mod Ranges
-- how a text writes a number
pub mod Numbers
-- how a text writes ranges of lines
pub mod Written
