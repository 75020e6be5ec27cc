pub mod Addressed
pub mod AddressedSite
mod AttemptHeard
mod CopierHeard
mod DeadlockHeard
mod DoubleStop
mod FirstRun
mod LateDown
pub mod Links
pub mod Mail
pub mod Parts
pub mod Settle
mod StaleCommit
mod StopInRun
