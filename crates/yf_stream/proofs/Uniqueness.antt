-- a text has one derivation as a stream, and one reading (`Laws`)
pub mod Forward
pub mod NoPercent
pub mod OneDirective
pub mod OneTag
pub mod StreamPath
pub mod Stable
pub mod OneStream
pub mod OneReading
pub mod StreamDocuments
