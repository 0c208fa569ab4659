pub mod ReadingLaws
pub mod SameLaws
pub mod KeptLaws
