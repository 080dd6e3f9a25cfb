-- each rule except indentation: its pass finds its set
pub mod TrailingLemmas
pub mod StyleLemmas
pub mod DocumentLemmas
pub mod BreakLemmas
pub mod MarkPassLemmas
pub mod HiddenLemmas
pub mod BlankLemmas
pub mod DisplacedLemmas
pub mod RunLemmas
pub mod KeyTreeLemmas
pub mod KeySetLemmas
pub mod KeyPassLemmas
pub mod KeyListLemmas
pub mod NeedlessLemmas
pub mod BlockKeyLemmas
pub mod AtomLemmas
