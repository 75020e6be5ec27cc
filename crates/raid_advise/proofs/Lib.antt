mod CameOn
mod Fits
mod Kept
mod Windows
