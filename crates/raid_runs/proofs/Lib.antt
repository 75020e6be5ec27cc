pub mod Legal
pub mod Switches
pub mod Upheld
