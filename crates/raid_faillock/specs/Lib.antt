pub mod Debts
pub mod Sets
pub mod Stands
