-- The lemmas, grouped by the function or the theorem that needs them.

-- both kinds: insides, gaps and closing quotes
pub mod BodyLemmas
pub mod GapLemmas
pub mod CloseLemmas
pub mod ScalarLemmas
-- `read_double`, `scan_double` and `double_in`
pub mod DoubleLemmas
pub mod ReadLemmas
pub mod SimpleLemmas
pub mod QuotedLemmas
-- `read_single` and `single_in`
pub mod SingleLemmas
pub mod SingleReadLemmas
pub mod UnquotedLemmas
pub mod MarkLemmas
-- `write_single` and `write_double`: readers read the written text again
pub mod WriteLemmas
pub mod OwnLemmas
pub mod QuotedBack
-- the definitions on small texts
mod QuotedShown
