-- Pages
pub mod PageLemmas
-- A line of the source
pub mod SourceLemmas
