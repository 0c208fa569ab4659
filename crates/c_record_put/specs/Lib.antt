pub mod KeptNumbers
pub mod KeptTable
pub mod KeptRecord
