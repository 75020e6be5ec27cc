pub mod Fault
pub mod Reading
pub mod Spelled
pub mod Words
