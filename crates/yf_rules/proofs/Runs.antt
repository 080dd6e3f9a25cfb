-- what the runs read and write
pub mod GivenTexts
pub mod NotationLemmas
pub mod FormattedLemmas
pub mod CompareLemmas
pub mod DiffLemmas
