-- The lemmas, grouped by the function or the law that needs them.

-- the lines of a text
pub mod LineLemmas
pub mod StartLemmas
-- the units and bytes of a line
pub mod ColumnLemmas
-- the units of characters
pub mod CountLemmas
-- positions and offsets, one after the other
pub mod InverseLemmas
pub mod ExactLemmas
-- edits of lines
pub mod LineParts
pub mod EditLemmas
pub mod BetweenLemmas
pub mod FollowLemmas
