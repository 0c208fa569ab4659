pub mod MarkingKey
pub mod Filling
