pub mod CallLaws
pub mod LoadLaws
pub mod BeginLaws
pub mod LogLaws
