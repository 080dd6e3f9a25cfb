-- patterns as tests
pub mod Tests
-- the two schemas
pub mod OlderSchema
pub mod NewerSchema
pub mod Values
pub mod Agreement
pub mod Sixties
pub mod Decided
-- messages
pub mod Meanings
