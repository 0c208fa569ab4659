pub mod RunLaws
pub mod AnswerLaws
