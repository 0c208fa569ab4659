pub mod NumberLaws
pub mod DataLaws
pub mod TextLaws
