pub mod Spans
pub mod Details
pub mod NodeDetails
pub mod Indents
pub mod IndentPass
pub mod FlowDetails
pub mod Known
pub mod Words
