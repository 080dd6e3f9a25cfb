-- the rows of a normal reading, the columns of comments, and the search for a comment that decides about the first
-- `---`
pub mod Rows
pub mod CommentColumns
pub mod SourceColumns
pub mod KeptColumns
pub mod LeafTrails
pub mod BareSearch
