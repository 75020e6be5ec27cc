pub mod Answering
pub mod Asked
pub mod Extent
pub mod Few
pub mod Heard
pub mod Ready
pub mod Stood
pub mod Whole
