-- a node on one line: its text, width and style, and the start of its content
pub mod Nodes
-- the normal form of a reading
pub mod NormalForms
-- the passes, event by event, for private clauses
pub mod Passes
