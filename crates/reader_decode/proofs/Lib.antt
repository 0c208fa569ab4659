pub mod DecodingLaws
pub mod ReadLaws
