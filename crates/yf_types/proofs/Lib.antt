-- bytes of a match
pub mod MatchLemmas
-- words, and parts in base 60
pub mod WordLemmas
pub mod SixtyRuns
-- numbers whose base does not matter
pub mod ShortNumbers
-- forms of one text
pub mod FormLemmas
pub mod AgreementLemmas
-- the tests and the relation between patterns and texts
pub mod DecidedLemmas
-- sizes
pub mod SizeLemmas
pub mod MeaningLemmas
