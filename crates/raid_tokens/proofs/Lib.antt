pub mod Fits
pub mod Digits
pub mod Written
pub mod Again
pub mod Takes
