pub mod Cuts
pub mod Digits
pub mod Glued
pub mod Keys
pub mod Written
