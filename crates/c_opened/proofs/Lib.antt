pub mod KeptReads
pub mod LongLaws
pub mod PartLaws
pub mod ReadBackLaws
pub mod KeptPuts
