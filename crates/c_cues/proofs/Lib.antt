pub mod CueBytesLaws
pub mod CallLaws
pub mod CursorLaws
pub mod FillLaws
