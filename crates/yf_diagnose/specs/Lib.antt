pub mod Brackets
pub mod Lines
pub mod Quoted
pub mod SecondReadings
