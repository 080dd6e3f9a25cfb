-- The definitions, in folders.
-- why the readers of nodes return no node
pub mod Refusal
-- the productions of flow and block nodes as one relation, and their meanings
pub mod Productions
-- the recursive reader of flow nodes, and the rest of a node for a reader with a stack
pub mod FlowReader
-- the recursive reader of block nodes, the last halts of broken nodes, and the rest of a task for a reader with a stack
pub mod BlockReader
