pub mod SameLaws
pub mod ThereLaws
pub mod NumberLaws
pub mod TableLaws
pub mod RecordLaws
