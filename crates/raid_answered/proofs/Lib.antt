pub mod Answers
pub mod Counts
pub mod Frame
pub mod Runs
pub mod Sites
pub mod Turns
