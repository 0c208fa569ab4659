pub mod FloorLaw
pub mod WholeLaws
