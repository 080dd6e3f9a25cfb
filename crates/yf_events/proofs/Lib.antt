-- The lemmas, each group under its function or theorem.

-- `Reading::build`: it accepts a list of events if and only if they are a well nested stream within the limit
pub mod Nests
pub mod Rests
pub mod Advances
pub mod Build
-- `begins_leaf`, `leaves_before` and `place_of`
pub mod LeafRuns
-- `content`
pub mod ContentRuns
-- `write_events` and `write_escaped`
pub mod PieceRuns
pub mod EscapedRuns
pub mod PlainLanes
pub mod PutLemmas
-- lists of events in rows: `Events` and `Tags`
pub mod PackedRows
pub mod TagLists
pub mod FormedRows
pub mod SilentRows
-- trees of events: at most one list of them, and one if and only if the offsets are those of trees
pub mod TreeLemmas
pub mod TreesExist
