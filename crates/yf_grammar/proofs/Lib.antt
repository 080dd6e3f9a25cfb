-- The lemmas, a folder for each theorem or for the base of several.
-- the laws of the readers of nodes, as the crates above use them
pub mod LawsHold
pub mod Laws
-- the base of all others: ends, gaps, and the text after nodes
pub mod Ends
-- the recursive reader of flow nodes has one outcome (`Outcome`), is sound and complete, and takes the longest node
pub mod FlowReader
-- a flow collection that is read with a stack (`Tied` of yf_flow)
pub mod FlowStack
-- the recursive reader of block nodes: its outcomes for entries and collections, how far it reaches, and its last halt
pub mod BlockOutcomes
-- leaves, properties and flow nodes in a block node, with the ends of their lines
pub mod BlockContent
-- the recursive reader of block nodes is sound, covers no forbidden line, and has an outcome
pub mod BlockReader
-- a block node that is read with a stack (`BlockTied` of yf_block)
pub mod BlockStack
-- the node of a document (`Stream` of yf_stream), and the order of its comments
pub mod Documents
-- the offsets of the nodes of a reading (`NodeLaws` and `PlaceLaws` of yf_stream)
pub mod NodesInText
-- a node of a text is one of the prefix that ends with it, and is read there again (`read_block_node` of yf_block)
pub mod Prefixes
-- a written text is read again (the laws of layouts of yf_laws)
pub mod WrittenTexts
-- the definitions by small texts
pub mod Shown
