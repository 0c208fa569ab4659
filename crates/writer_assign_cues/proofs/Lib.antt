pub mod TakeLaws
pub mod PointLaws
