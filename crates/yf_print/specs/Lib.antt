-- the rows of a normal reading, the columns of comments, and whether to leave out the first `---`
pub mod Layouts
-- the passes, event by event
pub mod Passes
