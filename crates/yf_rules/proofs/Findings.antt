-- `check`: the findings of rules at positions
pub mod CheckLemmas
pub mod FoundLemmas
pub mod FindingLemmas
-- in a formatted text no finding of the rules is fixable
pub mod MendedFindings
pub mod AllRulesLemmas
-- in the reading of a text each set is exact, and the findings are one list
pub mod TextSets
pub mod SortedLists
pub mod UniqueFindings
