pub mod SpanLemmas
pub mod FilledLemmas
pub mod GatherLemmas
pub mod NodeLemmas
pub mod IndentLemmas
pub mod FlowDetailLemmas
pub mod KnownLemmas
