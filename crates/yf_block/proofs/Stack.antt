-- `read_block_node`: the stack and the recursive reader agree (`BlockTied`)
pub mod TiedFrames
pub mod TiedFits
pub mod TiedAlone
pub mod TiedClosing
pub mod TiedColumns
pub mod TiedEntries
pub mod TiedFailed
pub mod TiedIndented
pub mod TiedInner
pub mod TiedKeys
pub mod TiedLeads
pub mod TiedLines
pub mod TiedNodes
pub mod TiedOpenings
pub mod TiedReads
pub mod TiedResume
pub mod TiedNext
pub mod TiedResumed
pub mod TiedRoot
mod TiedShown
