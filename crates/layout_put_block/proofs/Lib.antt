pub mod WrittenLaws
pub mod FillLaws
