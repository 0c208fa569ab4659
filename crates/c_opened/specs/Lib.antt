pub mod KeptReader
pub mod Failures
