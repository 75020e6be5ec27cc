pub mod Kept
pub mod May
pub mod Tied
pub mod Together
pub mod Turned
