pub mod Pairs
pub mod Pushed
