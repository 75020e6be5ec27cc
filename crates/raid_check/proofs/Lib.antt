pub mod Asked
pub mod Counted
pub mod Known
pub mod Kept
pub mod Once
pub mod Lists
pub mod Judged
