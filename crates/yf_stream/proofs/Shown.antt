-- the definitions by small texts
pub mod ShownEmpty
pub mod ShownItem
pub mod ShownLaws
pub mod ShownMarked
pub mod ShownMarkers
pub mod ShownNotes
pub mod ShownOneShape
pub mod ShownParts
pub mod ShownPlain
pub mod ShownSpaced
pub mod ShownStreams
pub mod ShownWord
pub mod ShownWords
