-- indentation: its passes find its set
pub mod EntryLemmas
pub mod FaultLemmas
pub mod QuietLemmas
pub mod EntryColumns
pub mod MisindentLemmas
pub mod PassLemmas
pub mod StandSetLemmas
pub mod StandTreeLemmas
