pub mod Nodes
pub mod Turns
pub mod Said
pub mod Settled
pub mod Fits
pub mod Ran
pub mod Opening
