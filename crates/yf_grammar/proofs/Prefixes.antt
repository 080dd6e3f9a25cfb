-- a node of a text is one of the prefix that ends with it, and is read there again (`read_block_node` of yf_block)
pub mod PrefixBodies
pub mod PrefixComments
pub mod PrefixEnds
pub mod PrefixLines
pub mod PrefixNames
pub mod PrefixNodes
pub mod PrefixNotes
pub mod PrefixPlain
pub mod PrefixQuoted
pub mod PrefixTexts
pub mod PrefixWhole
pub mod WholeLast
