-- The lemmas: a folder for each theorem, and one for lemmas that several use.
-- lemmas that all functions use: ends, looks ahead, open collections and notes
pub mod Ends
-- `read_content`: the beginning of an awaited node
pub mod Content
-- `read_flow_node` and `read_implicit_key`: the stack and the recursive reader agree (`Tied`)
pub mod Stack
