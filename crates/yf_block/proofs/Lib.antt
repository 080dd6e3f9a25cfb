-- The lemmas: a folder for each theorem, and one for lemmas that several use.
-- lemmas that all functions use: ends of lines, properties, looks ahead
pub mod Ends
-- the steps of the reader on a line: leaves, keys and block scalars
pub mod LineSteps
-- `read_block_node`: the stack and the recursive reader agree (`BlockTied`)
pub mod Stack
-- a run of the reader from step to step: the number of open collections, the work left, and the results
pub mod Runs
