-- the reading of a text satisfies `ReadingsAreOfTexts`
pub mod MarksOrder
pub mod PlacedTrees
pub mod ReadingsOfTexts
pub mod LeavesRise
pub mod KeysBegin
pub mod NestsRun
pub mod KeyEntries
