-- what formatting keeps: content, comments, lines, spellings
pub mod SameComments
pub mod CommentsPlaced
pub mod LayoutKey
pub mod EmptyTexts
pub mod SpacedLines
pub mod Spellings
pub mod TidyLines
pub mod SizeKept
pub mod FoundTrees
pub mod AlikeBlocks
pub mod KeyComments
pub mod ReadingKey
pub mod Tokens
