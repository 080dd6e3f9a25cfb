-- `read_flow_node` and `read_implicit_key`: the stack and the recursive reader agree (`Tied`)
pub mod TiedBase
pub mod TiedBegun
pub mod TiedClose
pub mod TiedEnds
pub mod TiedFails
pub mod TiedFirst
pub mod TiedItems
pub mod TiedKeys
pub mod TiedKept
pub mod TiedNodes
pub mod TiedPairKeys
pub mod TiedPairs
pub mod TiedSigns
pub mod TiedTaken
pub mod TiedValues
pub mod CountLemmas
pub mod ReadersLemmas
