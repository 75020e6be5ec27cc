pub mod Items
pub mod Stored
