-- The lemmas of the pass.
pub mod Pass
