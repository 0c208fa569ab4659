pub mod ColumnLaws
pub mod LineLaws
