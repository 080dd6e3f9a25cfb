-- white space and line breaks
pub mod WhiteSpace
-- the outline of a text
pub mod Outline
-- the steps of the pass that finds it
pub mod OutlinePass
