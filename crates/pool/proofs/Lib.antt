pub mod PortionLaws
