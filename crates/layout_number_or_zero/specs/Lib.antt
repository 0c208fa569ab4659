pub mod NumberOrZero
