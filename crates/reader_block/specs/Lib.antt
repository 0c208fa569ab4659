pub mod DataPlaces
pub mod BlockAnswers
