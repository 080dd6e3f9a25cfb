-- the set of each rule
pub mod ByLine
pub mod Whites
pub mod Scalars
pub mod Styles
pub mod HiddenCharacters
pub mod Documents
pub mod BlankLines
pub mod Indents
pub mod Nodes
pub mod QuestionMarks
pub mod Layouts
pub mod Exact
pub mod Places
pub mod Columns
