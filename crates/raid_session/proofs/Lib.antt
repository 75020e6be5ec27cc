pub mod Kept
pub mod Searched
pub mod Stale
