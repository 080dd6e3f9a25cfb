pub mod Frames
pub mod Streams
pub mod ErrorCodes
pub mod Messages
