-- The lemmas, grouped by the function or the theorem that needs them.

-- characters at offsets: `peek` and `is_there`, and each reader above
pub mod TextLemmas
pub mod CharBounds
pub mod BreakChars
-- `skip_nb_chars`
mod NbLemmas
-- a reader takes the longest part, with one meaning (`Chosen` of all readers above)
pub mod ChainLemmas
-- escapes: `read_escape` and `push_escaped`; a written character is read again
pub mod EscapeLemmas
pub mod SpelledLemmas
pub mod CommonLemmas
-- `is_hidden`
pub mod HiddenLemmas
-- tests of 16 bytes at once, in the crates above
pub mod LaneLemmas
pub mod LaneMasks
mod CommonLanes
pub mod CharFacts
pub mod Tests
