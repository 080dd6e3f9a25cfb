-- `measure_all`: the width of each node (`Measures`)
pub mod LevelLemmas
pub mod OffsetLemmas
pub mod SumLemmas
pub mod EndedLemmas
pub mod PassLemmas
pub mod StepLemmas
pub mod MeasuredLemmas
pub mod FlowParts
