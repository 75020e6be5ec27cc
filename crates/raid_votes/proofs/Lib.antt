pub mod Expects
pub mod Heard
pub mod Home
pub mod HomeSteps
pub mod Runs
pub mod Sweeps
pub mod UpNotes
pub mod Voters
