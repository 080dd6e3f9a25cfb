-- block scalars as yf_block_scalar writes them; flow collections without comments
pub mod BlockValues
pub mod FlowsWithoutComments
