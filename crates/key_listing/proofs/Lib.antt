pub mod ListingLaws
pub mod LineLaws
pub mod StartLaws
pub mod ListingSize
