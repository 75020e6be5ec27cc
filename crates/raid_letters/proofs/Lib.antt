pub mod Copies
pub mod Later
pub mod Runs
pub mod Sends
pub mod Sites
pub mod Turns
pub mod Waits
