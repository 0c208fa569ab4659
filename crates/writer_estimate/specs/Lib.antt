pub mod EstimateAnswers
