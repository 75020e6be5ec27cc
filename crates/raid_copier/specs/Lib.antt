pub mod Copiers
