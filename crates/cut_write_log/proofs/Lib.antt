pub mod WriteLogLaws
