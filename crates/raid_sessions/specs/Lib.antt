pub mod Due
pub mod Present
