-- texts that are not data
pub mod Guards
-- the state of the pass over the events for each open collection, and its steps, for private clauses
pub mod Collections
pub mod Pass
