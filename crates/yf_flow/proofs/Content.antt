-- `read_content`: the beginning of an awaited node
pub mod BareLeads
pub mod BegunLemmas
pub mod NodeBegunLemmas
pub mod ContentEnds
pub mod EndsAlone
pub mod EntriesFrom
pub mod NodeEnds
