-- a written text is read again (the laws of layouts of yf_laws)
pub mod LeafBack
pub mod FlowBack
pub mod PairsBack
pub mod PlainUnmarked
pub mod ScalarPlaced
pub mod KeptNodes
