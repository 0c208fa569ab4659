pub mod ServersPart
