pub mod Ring
pub mod Next
pub mod Fits
