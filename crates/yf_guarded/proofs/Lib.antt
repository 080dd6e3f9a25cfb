-- what the guard finds in the reading of a text
pub mod JudgeLemmas
-- what a check with the guard writes
pub mod CheckLemmas
-- the verdict on a text with a fault
pub mod VerdictLemmas
-- the formatting of a text that is data
pub mod FormattingLemmas
