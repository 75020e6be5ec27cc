pub mod Hearing
pub mod Placing
pub mod Ready
