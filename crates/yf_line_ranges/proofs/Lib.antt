-- The lemmas, each group under the function that it serves.

-- `add_ranges`
pub mod PartLemmas
-- `read_number`
pub mod NumberLemmas
