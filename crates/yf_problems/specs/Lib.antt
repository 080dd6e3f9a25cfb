-- the problems of a text
pub mod Problems
-- the parts of a text that may be folded
pub mod Folds
-- the steps of the pass that finds them
pub mod FoldPass
-- the outline of a text
pub mod Outlines
