pub mod Comment
pub mod Comments
pub mod GapLines
