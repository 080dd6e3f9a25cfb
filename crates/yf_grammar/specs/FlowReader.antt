-- the recursive reader of flow nodes, and the rest of a node for a reader with a stack
pub mod Parser
pub mod FlowContinuations
