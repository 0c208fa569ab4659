pub mod Fields
pub mod KeptSides
pub mod KeptWriter
