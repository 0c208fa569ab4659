pub mod DataLaws
pub mod PushLaws
