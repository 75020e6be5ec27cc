pub mod Lists
pub mod Sums
pub mod Tables
pub mod Puts
pub mod Asked
pub mod Courses
pub mod Finds
