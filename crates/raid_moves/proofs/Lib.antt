pub mod Filled
pub mod Left
pub mod Places
pub mod Steps
pub mod Swept
