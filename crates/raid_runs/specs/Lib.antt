pub mod Asked
pub mod Unasked
pub mod Upheld
