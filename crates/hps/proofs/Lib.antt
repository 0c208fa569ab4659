pub mod ExportedLaws
pub mod KeptCalls
