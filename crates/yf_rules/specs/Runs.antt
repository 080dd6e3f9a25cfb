-- the inputs and the results of the runs
pub mod ByteStream
pub mod Input
pub mod Run
pub mod Compare
pub mod Diffed
pub mod Action
