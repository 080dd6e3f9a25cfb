-- the passes, event by event, for private clauses
pub mod MeasurePass
pub mod DecidePass
pub mod NormalEvents
pub mod OneLinePass
pub mod EventsGiven
pub mod FoundInPass
pub mod Halving
pub mod Searches
