-- how long a formatted text may be (`SizeKept`)
pub mod SizesKept
-- the number of bytes of events, comments and documents in the text
pub mod Weights
pub mod CommentBytes
pub mod NameBytes
pub mod TextBytes
pub mod BlockBytes
pub mod NodeBytes
pub mod StreamBytes
pub mod TreeBytes
pub mod ReadingBytes
-- the number of bytes of rows, from these
pub mod LeafBytes
pub mod NodeCosts
pub mod RowBytes
pub mod DocumentRows
pub mod LayoutBytes
