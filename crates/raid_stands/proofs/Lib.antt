pub mod Gives
pub mod Notes
pub mod Runs
pub mod Sites
