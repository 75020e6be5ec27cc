pub mod Merged
pub mod Gathered
