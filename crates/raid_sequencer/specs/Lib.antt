pub mod Extent
pub mod Kept
pub mod Runs
