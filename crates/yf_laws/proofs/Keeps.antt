-- what formatting leaves unchanged (`Keeps`)
pub mod KeepsHold
pub mod BlanksKept
pub mod CommentsStay
pub mod KeyDecides
pub mod EmptyTexts
pub mod RowColumns
pub mod GapColumns
pub mod LinesTidy
pub mod SpellingsKept
pub mod KeysTold
pub mod MatchedLemmas
pub mod MatchedRows
pub mod ReadingsDecide
pub mod ScalarsAmong
