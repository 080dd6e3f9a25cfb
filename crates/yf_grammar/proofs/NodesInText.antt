-- the offsets of the nodes of a reading (`NodeLaws` and `PlaceLaws` of yf_stream)
pub mod MeantLemmas
pub mod FinishLater
pub mod NodePlaces
pub mod PlacedLeaves
pub mod PlacedNodes
pub mod PlacedScalars
pub mod PlacesDerived
pub mod EventsStand
pub mod ItemsVisible
pub mod NotedNodes
