-- The definitions, in folders.
-- formattings, and what is proved about them
pub mod Format
pub mod FormatPromises
pub mod FormatLaws
pub mod FixedLaws
pub mod Keeps
pub mod Laws
pub mod Types
-- block scalars as yf_block_scalar writes them; flow collections without comments
pub mod Nodes
-- which readings are laid out, and the facts about the readings of texts
pub mod NormalForms
-- the lines of a normal reading, its comments and its blank lines
pub mod Layouts
-- the text that printing gives and what it writes to a writer; the passes give what the definitions state
pub mod Passes
pub mod PassLaws
-- what formatting keeps: content, comments, lines, spellings
pub mod Preservation
-- a formatted text has no fixable finding; the statements on every text
pub mod Mended
pub mod Formattings
-- the promises of settings
pub mod Settings
