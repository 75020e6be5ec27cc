pub mod Tell
pub mod Truthful
