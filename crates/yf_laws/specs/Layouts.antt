-- the lines of a normal reading, its comments and its blank lines
pub mod Layout
pub mod Decorated
pub mod RowComments
pub mod RowShapes
pub mod TrailsOf
pub mod ReadableTrees
pub mod FitDocuments
pub mod WrittenQuotes
