pub mod Script
pub mod Running
