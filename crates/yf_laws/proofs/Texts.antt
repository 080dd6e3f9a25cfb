-- the bytes of lines, and that styles stay as they are wanted
pub mod HighBytes
pub mod LineUtf8
pub mod WantedLemmas
