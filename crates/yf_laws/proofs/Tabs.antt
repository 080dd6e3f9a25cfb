-- in a formatted text tabs are only in contents
pub mod DirectiveTabs
pub mod TokenTabs
pub mod RowTokens
pub mod PiecesRead
pub mod StreamPieces
pub mod CommentTokens
