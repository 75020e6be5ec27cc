pub mod Cells
pub mod Owed
pub mod Sources
pub mod Stand
