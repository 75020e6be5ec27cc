pub mod Placed
pub mod Turned
pub mod Waiting
