pub mod Gets
pub mod Values
