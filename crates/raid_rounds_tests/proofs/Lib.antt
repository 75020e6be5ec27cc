pub mod Places
pub mod Settles
pub mod Turns
pub mod Three
