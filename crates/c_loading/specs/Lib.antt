pub mod KeptLoading
