pub mod Bound
pub mod Counts
pub mod Findings
pub mod Sayings
