pub mod DecideLaws
pub mod GroupLaws
pub mod CoefficientLaws
