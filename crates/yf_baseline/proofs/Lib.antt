-- The lemmas, each group under the function that it serves.

-- lists that loops make
pub mod ListLemmas
-- `count_once_more`
pub mod CountLemmas
-- `entries_of`
pub mod EntryLemmas
-- `entry_line`
pub mod LineTextLemmas
-- `write_baseline`
pub mod TextLemmas
-- `read_baseline`; a written baseline is read
pub mod ReadLemmas
-- `lines_of`, `names_of` and `missing`
pub mod ListedLemmas
-- `entries_come_once`
pub mod OnceLemmas
-- `entries_ignore_order`
pub mod OrderLemmas
