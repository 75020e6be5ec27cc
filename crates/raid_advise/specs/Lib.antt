pub mod Added
pub mod Advice
