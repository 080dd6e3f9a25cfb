pub mod Received
pub mod Handled
pub mod Sessions
