pub mod FitRuns
pub mod FitSites
pub mod Histories
pub mod Named
pub mod Runs
pub mod Sites
pub mod Worlds
