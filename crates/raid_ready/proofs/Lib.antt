pub mod Due
pub mod Entries
pub mod Over
pub mod Runs
pub mod Sequencer
pub mod Sites
pub mod Starts
pub mod Values
