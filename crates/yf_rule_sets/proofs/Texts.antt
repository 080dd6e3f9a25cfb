-- facts about texts, lines and readings that several rules use
pub mod ExactLemmas
pub mod BegunLemmas
pub mod NotedLemmas
pub mod WhitesLemmas
pub mod LastLemmas
pub mod ColumnLemmas
pub mod NodeLemmas
pub mod NodePlaceLemmas
pub mod FlowLemmas
pub mod BlockLemmas
pub mod ScalarLemmas
pub mod ScalarPasses
