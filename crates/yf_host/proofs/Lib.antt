-- The lemmas, under the function that they serve.

-- `rewrite`
pub mod FilesLemmas
-- `is_diff`
mod NamedLemmas
