pub mod AtHome
pub mod Ended
pub mod Fit
