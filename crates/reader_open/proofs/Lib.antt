pub mod OpenLaws
pub mod WalkLaws
