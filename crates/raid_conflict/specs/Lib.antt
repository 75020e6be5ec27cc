pub mod Arrange
pub mod Found
pub mod Listed
pub mod Live
pub mod Search
pub mod Tables
