-- the recursive reader of block nodes is sound, covers no forbidden line, and has an outcome
pub mod BlockSound
pub mod SoundSteps
pub mod WholeSound
pub mod HaltsSound
pub mod ClearBlocks
pub mod HaltsClear
pub mod LeavesReached
pub mod PropertiesReached
pub mod WholeAnswered
pub mod HaltsAnswered
