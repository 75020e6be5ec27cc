mod Measured
pub mod Opening
pub mod Sums
