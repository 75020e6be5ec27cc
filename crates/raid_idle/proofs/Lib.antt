pub mod Finished
pub mod Nobody
pub mod Once
