pub mod Placing
pub mod Runs
pub mod Sites
