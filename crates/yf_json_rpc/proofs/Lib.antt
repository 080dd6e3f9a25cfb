-- the result of `read_frame`
pub mod FrameLemmas
-- the output of `push_frame`
pub mod WrittenLemmas
