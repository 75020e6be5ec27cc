pub mod Acks
pub mod Vectors
