-- the comments that are on the lines of leaves
pub mod LeafLemmas
pub mod LeafSearches
pub mod LeafTrees
pub mod CommentLines
