-- a well-formed text has a reading (`HasReading`)
pub mod LinesExist
pub mod NodeFinish
pub mod RowsKnown
pub mod BreachLemmas
