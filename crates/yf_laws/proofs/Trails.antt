-- `trails_of`: the comments that trail are those of the layout
pub mod LeafMarks
pub mod TrailChoice
pub mod TrailRuns
pub mod TrailLeaves
pub mod TrailOthers
pub mod RowLeaves
pub mod TrailsAgree
pub mod TrailFirst
pub mod TrailsHold
pub mod MarkSpans
pub mod DocumentTrails
pub mod NodeTrails
pub mod RowTrails
pub mod KeyTrails
pub mod FormatTrails
pub mod StillHolds
