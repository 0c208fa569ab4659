pub mod AcceptedLaws
pub mod CallLaws
pub mod ChainLaws
