-- the productions of flow and block nodes as one relation, and their meanings
pub mod BlockScalar
pub mod Grammar
pub mod Meaning
pub mod TreesOfMeaning
pub mod ReadParts
pub mod SpellableTexts
pub mod Unmarked
pub mod OneLineTexts
