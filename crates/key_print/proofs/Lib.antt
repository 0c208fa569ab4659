pub mod PortionLaws
pub mod StopLaws
