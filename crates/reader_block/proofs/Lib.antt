pub mod DataPlaceLaws
pub mod BlockLaws
