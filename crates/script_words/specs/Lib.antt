pub mod Texts
pub mod Numbers
pub mod Data
