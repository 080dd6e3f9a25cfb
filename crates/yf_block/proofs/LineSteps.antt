-- the steps of the reader on a line: leaves, keys and block scalars
pub mod ContentNodes
pub mod ContentFails
pub mod ContentKeys
pub mod ContentLeaves
pub mod ContentLines
pub mod ContentMappings
pub mod ContentEnds
pub mod LeafEnds
pub mod ScalarLines
pub mod TiedScalar
pub mod ContentSteps
pub mod OpeningLemmas
