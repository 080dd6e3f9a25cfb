-- a formatted text has no fixable finding (`FormatsAreMended`)
pub mod MendedTrailingBlanks
pub mod MendedFlowLayout
pub mod MendedColumns
pub mod MendedCommentSpace
pub mod MendedContents
pub mod MendedFlows
pub mod MendedIndentation
pub mod MendedLayouts
pub mod MendedLines
pub mod MendedKeyMark
pub mod MendedQuoting
pub mod MendedScalarIndents
pub mod MendedScalars
pub mod MendedSorts
pub mod MendedBlankLines
pub mod MendedDocumentStart
pub mod WrittenPlaces
