-- `known_positions`, `columns_of`: positions and columns of offsets, and going back from an offset
pub mod PlacesLemmas
pub mod CursorLemmas
pub mod BackLemmas
