-- The lemmas, grouped by the function that needs them.

-- `hunks_between`
pub mod DifferLemmas
-- `touched`
pub mod TouchedLemmas
-- `is_near`, `chosen`, `attempted` and `whole`
pub mod TryLemmas
-- `narrowed` and `searched`
pub mod AttemptLemmas
-- `part_of`
pub mod SpliceLemmas
pub mod AskedLemmas
-- `verified`
pub mod VerifiedLemmas
-- `part_of`
pub mod PartLemmas
-- `run_part`
pub mod RunLemmas
-- `show_place` and `show_diff`
pub mod ShowLemmas
