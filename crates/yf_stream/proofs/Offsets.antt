-- the offsets of documents, nodes, comments and directives (`NodeLaws`, `PlaceLaws`, `CommentLaws`)
pub mod DirectiveOrder
pub mod BrokenEnds
pub mod DocumentPlaces
pub mod DraftedReadings
pub mod ReadingOrder
pub mod ReadingTrees
pub mod CommentTexts
pub mod EventsInOrder
pub mod NestedNodes
pub mod NestedStreams
pub mod DocumentMarkers
pub mod DirectivesStand
pub mod FaultsPlaced
pub mod BreachBoundaries
pub mod BreachPlaces
pub mod TagPlaces
