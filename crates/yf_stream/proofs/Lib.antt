-- The lemmas, a folder for each theorem or for the base of several.
-- the laws of streams and readings hold
pub mod LawsHold
pub mod NodeLawsHold
pub mod PlaceLawsHold
pub mod HasReading
pub mod CommentLaws
pub mod NodeLaws
pub mod PlaceLaws
pub mod ReaderLaws
-- a text has one derivation as a stream, and one reading (`Laws`)
pub mod Uniqueness
-- a well-formed text has a reading (`HasReading`)
pub mod Existence
-- the offsets of documents, nodes, comments and directives (`NodeLaws`, `PlaceLaws`, `CommentLaws`)
pub mod Offsets
-- the pass over the events: tags, handles, anchors and the first breach
pub mod TagPass
-- the comments that are on the lines of leaves
pub mod LeafPass
-- the contract of `read_stream` (`StreamReader`): a stream step by step, from directives to the last document
pub mod Reader
-- the notes on blank lines in a stream that is read step by step
pub mod BlankNotes
-- the definitions by small texts
pub mod Shown
