pub mod CueAnswers
