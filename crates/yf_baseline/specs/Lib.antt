-- texts that were seen
pub mod SeenTexts
-- entries, and the entries of findings
pub mod Entries
-- how a baseline is written and read
pub mod Baselines
-- the entries of a baseline that no longer occur
pub mod Listed
-- consequences of the definitions
pub mod Laws
