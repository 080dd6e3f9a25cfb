-- the definitions by small texts
mod BackShown
pub mod BlockShown
pub mod BlockStackShown
mod HaltsShown
mod LeavesShown
mod PropertiesShown
pub mod ShownParts
