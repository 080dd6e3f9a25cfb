-- unused and repeated anchors
pub mod Anchors
pub mod NameSets
-- keys and items without a value
pub mod EmptyValues
pub mod EmptyPass
-- ambiguous plain scalars
pub mod AmbiguousPlains
pub mod PlainPass
