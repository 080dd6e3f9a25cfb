-- the columns of entries and of outer flow collections in a formatted text
pub mod SetNodes
pub mod SetMeant
pub mod SetStreams
pub mod FormattedSet
pub mod LinePlaces
pub mod SourceColumns
pub mod FlowHeads
pub mod FlowEvents
pub mod WrittenNodes
pub mod WrittenFlows
pub mod WrittenTrees
pub mod WrittenReadings
