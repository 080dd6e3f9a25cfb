-- a flow collection that is read with a stack (`Tied` of yf_flow)
pub mod AwaitEntries
pub mod AwaitFails
pub mod AwaitValues
