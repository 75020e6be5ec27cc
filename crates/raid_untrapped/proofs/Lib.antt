pub mod Ends
pub mod Free
pub mod Members
pub mod Steps
pub mod Waits
