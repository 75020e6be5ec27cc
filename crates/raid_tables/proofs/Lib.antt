pub mod Known
pub mod Starts
