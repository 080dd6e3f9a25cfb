-- The lemmas, a folder for each theorem or for what several theorems use.
-- the statements on every text and its formatting (`Headline`)
pub mod HeadlineHolds
-- `check`: the findings of rules at positions
pub mod Findings
-- what the runs read and write: `run_fmt`, `run_fmt_check`, `run_fmt_diff`
pub mod Runs
-- the definitions, evaluated on small readings
pub mod Shown
