pub mod Placed
pub mod Stand
