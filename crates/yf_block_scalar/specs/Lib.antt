pub mod Body
pub mod Content
pub mod Header
pub mod Indentation
pub mod LineOffset
pub mod Written
pub mod Placed
