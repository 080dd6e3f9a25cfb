-- `normalized`: the pass that makes the normal form in place
pub mod RestyledLemmas
pub mod NormalLemmas
pub mod NormalSteps
pub mod NormalInPlace
