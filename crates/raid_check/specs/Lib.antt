pub mod Finding
pub mod Replay
