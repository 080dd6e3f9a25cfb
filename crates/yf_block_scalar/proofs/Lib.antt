-- The lemmas, each group under the function or the theorem that it serves.

-- `read_header` and `block_header`
pub mod HeaderLemmas
-- `read_body` and `block_body`: one end and one meaning
pub mod BodyLemmas
pub mod IndentLemmas
pub mod TrailLemmas
pub mod UniqueLemmas
pub mod ReaderLemmas
pub mod ScalarLemmas
pub mod ScalarOrder
-- `content`
pub mod ContentLemmas
-- `write_block`: a written scalar is derived again
pub mod WrittenLemmas
pub mod DerivedLemmas
-- a scalar among other lines (the laws of layouts of yf_laws)
pub mod LinesMade
pub mod PlacedLemmas
pub mod PlacedScalar
-- small texts that show the definitions
mod PlacedShown
