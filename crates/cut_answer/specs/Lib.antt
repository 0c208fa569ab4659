pub mod Moments
pub mod Answers
