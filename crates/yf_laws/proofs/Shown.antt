-- the definitions, evaluated on small readings
pub mod Examples
pub mod ShownComments
pub mod ShownCore
pub mod ShownDecos
pub mod ShownKeys
pub mod ShownLayouts
pub mod ShownMatch
pub mod ShownNodes
pub mod ShownScalars
pub mod ShownSize
pub mod ShownTidy
