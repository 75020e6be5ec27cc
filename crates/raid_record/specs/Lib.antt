pub mod Keeps
pub mod Turns
pub mod Tells
