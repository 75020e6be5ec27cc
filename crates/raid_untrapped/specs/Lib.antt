pub mod Trap
