pub mod GotLaws
pub mod PcmLaws
