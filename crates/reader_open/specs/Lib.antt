pub mod WalkAnswers
