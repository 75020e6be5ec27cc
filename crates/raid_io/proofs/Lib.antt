pub mod Gaves
