pub mod HeaderPut
