pub mod PoolLines
pub mod PoolText
