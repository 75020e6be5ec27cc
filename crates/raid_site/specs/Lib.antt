pub mod Whole
pub mod Server
