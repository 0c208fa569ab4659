pub mod SaysLaws
pub mod AnswerLaws
