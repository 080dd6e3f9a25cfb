-- what makes a text no data, and the finding that says so
pub mod Judged
-- the formatting of a text that is data
pub mod Formatted
-- a check with that finding
pub mod Checked
