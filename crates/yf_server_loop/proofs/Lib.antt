-- reading
pub mod ReceiveLemmas
-- what is done if memory for a step was refused
pub mod HandledLemmas
-- sessions, message by message
pub mod SessionLemmas
