pub mod Agree
pub mod Staged
