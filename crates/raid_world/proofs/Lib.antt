pub mod Few
pub mod Serving
pub mod Shape
pub mod Starting
pub mod Stepping
pub mod Timing
pub mod Told
