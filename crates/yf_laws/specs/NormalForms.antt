-- which readings are laid out, and the facts about the readings of texts
pub mod NormalForm
pub mod OfText
