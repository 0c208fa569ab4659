pub mod ByteLaws
pub mod MomentLaws
pub mod WriteLaws
pub mod EveryLaws
