pub mod Force
pub mod Lasting
