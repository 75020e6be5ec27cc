pub mod Rows
pub mod Stamps
pub mod Commits
pub mod Running
pub mod Readers
