pub mod Flat
pub mod Rising
pub mod Unique
pub mod Only
