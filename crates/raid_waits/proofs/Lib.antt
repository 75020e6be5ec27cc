pub mod Removed
pub mod Searched
