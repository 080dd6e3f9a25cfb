-- texts on one line and their widths: `width`, `written`, `kept_text`; lines of block scalars
pub mod WidthLemmas
pub mod TreeTexts
pub mod BlockLemmas
pub mod GapLemmas
pub mod CommonWidths
pub mod OneLineRuns
pub mod KeptLemmas
pub mod FlowTells
