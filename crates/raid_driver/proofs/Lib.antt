pub mod Follow
pub mod Kept
pub mod Losing
pub mod Places
pub mod Shown
