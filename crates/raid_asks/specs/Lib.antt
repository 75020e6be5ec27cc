pub mod Own
pub mod Way
