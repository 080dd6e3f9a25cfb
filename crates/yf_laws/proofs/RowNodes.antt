-- nodes are found on their laid-out rows
pub mod HeadRows
pub mod PlacedRows
pub mod FoundNodes
pub mod FoundLines
pub mod FoundStreams
pub mod QuietPlaces
pub mod FoundAgree
pub mod FoundKeys
pub mod BareNodes
pub mod BareTrees
pub mod FoundTexts
pub mod FoundMarks
pub mod QuotesKept
