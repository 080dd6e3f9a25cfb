-- the node of a document (`Stream` of yf_stream), and the order of its comments
pub mod DocumentNodes
pub mod DerivedNodes
pub mod CommentOrder
