pub mod RemainingAnswers
