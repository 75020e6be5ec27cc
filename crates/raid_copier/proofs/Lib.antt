pub mod Places
pub mod Renewed
pub mod Stand
