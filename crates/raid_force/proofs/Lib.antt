pub mod Coming
pub mod Lasting
pub mod Racked
pub mod Steps
pub mod Told
pub mod Whole
