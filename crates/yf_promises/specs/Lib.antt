-- the statements of a text's tokens: whether it is accepted, its events, its content and its comments
pub mod Said
-- which documents `...` ends
pub mod Ends
-- the promises
pub mod Promises
