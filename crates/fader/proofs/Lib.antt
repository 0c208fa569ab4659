pub mod CurveLaws
pub mod FadeLaws
