pub mod CueBytes
pub mod KeptCues
