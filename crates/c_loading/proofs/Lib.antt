pub mod AfterLaws
pub mod BackLaws
pub mod CallLaws
