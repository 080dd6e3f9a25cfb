-- what a setting promises about the readings of a text and of its formatting
pub mod DocumentStarts
pub mod QuotesFound
pub mod ShownCharacters
pub mod HiddenCharacters
pub mod CommentBlocks
