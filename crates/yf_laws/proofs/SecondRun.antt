-- a second run changes nothing (`FixedLaws`): trees that differ only in offsets are laid out alike
pub mod AlikeLemmas
pub mod FixedNodes
pub mod FixedRows
pub mod FixedFormats
pub mod FixedBlocks
pub mod ColumnsAgain
pub mod ColumnsStay
pub mod FormatsFixed
pub mod FixedLawsHold
