pub mod EstimateCodeLaws
