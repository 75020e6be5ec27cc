pub mod Entries
pub mod Queues
pub mod Runs
pub mod Sequencer
pub mod Sites
