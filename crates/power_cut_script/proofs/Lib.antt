pub mod TypedLaws
pub mod CutLaws
